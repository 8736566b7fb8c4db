use Rattle.std.proofs.Common.{◌∙◌, ap, List, ℕ}
use Rattle.std.specs.List.{filter}
use Rattle.item_tree.specs.Datum.{Datum}
use Rattle.fn_objects.specs.inside.KeySets.{has}
use Rattle.fn_objects.specs.inside.Choices.{chosen}
use Rattle.fn_objects.proofs.ChoiceLemmas.{no_twice, not_deep}
use Rattle.fn_objects.proofs.choices.chosen_object.Goals as goal

pub unreachable-requires : goal.unreachable-requires
unreachable-requires c =
    let test = λ (p : List ℕ × Datum). chosen c.args.choice (has c.args.names.now p.0) in
    no_twice test c.args.pairs.now _ _ c.as_slice.ensures.sound (c.in_ok-chosen_pairs.ensures ∙ ap (filter test) c.as_slice.ensures.value) (rw c.in-Err-KeyTwice.field-0-is at c.in-Err-KeyTwice.ensures)

pub unreachable-requires-in-Err-TooDeep : goal.unreachable-requires-in-Err-TooDeep
unreachable-requires-in-Err-TooDeep c =
    let test = λ (p : List ℕ × Datum). chosen c.args.choice (has c.args.names.now p.0) in
    not_deep test c.args.pairs.now _ c.as_slice.ensures.sound (c.in_ok-chosen_pairs.ensures ∙ ap (filter test) c.as_slice.ensures.value) (rw c.in-Err-TooDeep.field-0-is at c.in-Err-TooDeep.ensures).1
