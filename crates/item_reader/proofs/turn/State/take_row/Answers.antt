use Rattle.std.proofs.Common.{sym, ◌∙◌, ap, subst, ◌∷◌}
use Rattle.item_tree.specs.Few.{integers_in}
use Rattle.item_reader.specs.View.{mode_of}
use Rattle.item_reader.specs.Turns.{IsAdded}
use Rattle.item_reader.proofs.Uncons.{cons_of}
use Rattle.item_reader.proofs.RowSteps.{row_taken}
use Rattle.item_reader.proofs.turn.State.take_row.Goals as goal

pub returns-in_ok-add-in-Some : goal.returns-in_ok-add-in-Some
returns-in_ok-add-in-Some c =
    let old = c.args.self.now in let new = c.add.new.self in
    let line = c.args.line.now in let inside = c.in-Some-eq91-default.inside.now in
    let first = cons_of line _ inside (sym c.in-Some-eq91-default.ensures) ∙ ap (λ b. b ∷ inside) c.in-Some-eq91-default.field-0-0-test in
    let added = subst (λ y. IsAdded old y new) c.in_ok-row-in-Some.ensures c.in_ok-add-in-Some.ensures in
    row_taken old new c.in-Value.field-0 (integers_in c.in-Some.numbers) line inside c.in-Some.behind.now first (ap mode_of c.in-Value.is) (sym c.if-not-may_open.ensures) c.in-Some.ensures added
