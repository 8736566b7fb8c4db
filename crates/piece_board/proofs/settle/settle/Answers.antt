use Rattle.std.proofs.Common.{arith, subst, List, length}
use Rattle.fault_merge.specs.declared.done.Done.{Done}
use Rattle.piece_board.specs.declared.settle.Seen.{Seen}
use Rattle.piece_board.specs.inside.Seen.{AllSeen, AllAgree}
use Rattle.piece_board.proofs.Seeing.{settled_board}
use Rattle.piece_board.proofs.settle.settle.Goals as goal

pub returns : goal.returns
returns g c =
    let h = c.into_log-events.ensures in
    let D : Type 0 = Done g.row.J-Out.Denot in
    let xs = c.in-Some.seen.items in
    let ds = c.put_in_place.new.done.items in
    let t = rw c.in-Some.is at c.in_ok-seen.ensures in
    let seen : AllSeen xs c.into_log-events.result.1.items = subst (AllSeen xs) c.deref.ensures.value t.1 in
    let agree2 = subst (λ (w : List Seen). AllAgree g.J.Job.tells w c.deref-3.result.now (length w)) c.deref-2.ensures.value c.if-not-all_agree.ensures in
    let agree3 : AllAgree g.J.Job.tells xs ds (length xs) = subst (λ (w : List D). AllAgree g.J.Job.tells xs w (length xs)) c.deref-3.ensures.value agree2 in
    settled_board g.J.Job.tells (g.J.Job.good c.args.job.now) c.args.total c.args.full c.args.done.items ds xs c.into_log-events.result.1.items
    c.args.board c.into_log-events.result.0 h.replays h.state h.log c.if-state-total.false c.if-state-full.false c.if-state-total-2.false c.if-state.false
    c.requires.good c.put_in_place.ensures.permutation (omega (arith, c.put_in_place.ensures.length, c.args.done.ok.0)) t.0 seen agree3
