use Rattle.std.proofs.Common.{◌∙◌, sym, take, subst}
use Rattle.std.proofs.lemmas.List.{take_more, take_all}
use Rattle.board_core.specs.declared.event.CoreEvent.TheVariants.{Took}
use Rattle.piece_board.specs.inside.Seen.{AllSeen}
use Rattle.piece_board.proofs.settle.tally.Goals as goal

pub loop-event-preserved : goal.loop-event-preserved
loop-event-preserved c =
    let h = c.if-not-see.ensures in
    let i = c.loop-event.event-index in
    let es = c.args.events.now in
    let t = h.seen (take i es) c.loop-event.invariant.1 in
    (h.length ∙ c.loop-event.invariant.0, subst (AllSeen c.see.new.seen.items) (sym (take_more es i (Took 0 0) c.loop-event-test.true)) t)

pub returns : goal.returns
returns c =
    let e = take_all c.loop-event.event-index c.args.events.now c.loop-event-test.false in
    (c.loop-event.invariant.0, subst (AllSeen c.loop-event.seen.items) e c.loop-event.invariant.1)
