use Rattle.std.proofs.Common.{ℕ, IfOk, None, ◌∙◌, ap, map, subst}
use Rattle.fault_merge.specs.declared.done.Done.{Done}
use Rattle.piece_board.specs.Whole.{IsWhole}
use Rattle.piece_seats.specs.inside.Sums.{IsCountOf, sums_from}
use Rattle.piece_seats.proofs.LinesBefore.{sums_are_lines}
use Rattle.piece_seats.proofs.before.lines_before.Goals as goal

pub returns-in-Ok-sums_before-clause-before : goal.returns-in-Ok-sums_before-clause-before
returns-in-Ok-sums_before-clause-before g c =
    let cut = c.args.cut.now in
    let told = g.T.FilesTold.told c.args.told.now in
    let done = c.in-Ok.pieces.done.items in
    let whole = subst (λ r. IfOk r (λ p. IsWhole (λ (out : ℕ). None) (λ p limit out. IsCountOf cut told p out) c.pieces.result 0 p.done.items p.events.items)) c.in-Ok.is c.run_pieces-seats.ensures.whole in
    sums_are_lines cut told (λ (out : ℕ). None) c.pieces.result 0 done c.in-Ok.pieces.events.items c.in-Ok-sums_before.before.items whole c.pieces.ensures.value
    (c.in-Ok-sums_before.ensures ∙ ap (λ ds. sums_from 0 (map (λ (d : Done ℕ). d.out) ds)) c.deref.ensures.value)
