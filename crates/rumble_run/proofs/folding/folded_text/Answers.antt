use Rattle.std.proofs.Common.{◌∙◌, sym, ap, subst, []}
use Rattle.item_tree.specs.Item.{datums}
use Rattle.piece_seats.specs.Texts.{IsTextOf}
use Rattle.piece_run.specs.Kept.{KeptIs, LeafFails, of_evaluation}
use Rattle.rumble_run.specs.inside.Walked.{value_over}
use Rattle.rumble_run.proofs.FoldedTexts.{over_made, function_fails}
use Rattle.rumble_run.proofs.folding.folded_text.Goals as goal

pub returns-in_ok-add-in-Ok-finish-clause-value : goal.returns-in_ok-add-in-Ok-finish-clause-value
returns-in_ok-add-in-Ok-finish-clause-value g c = λ meant h.
    let k = subst (λ f. KeptIs (λ f ds. g.P.Partial.stands f.part ds) f meant) c.in-Ok.is h in
    let items = c.in-Ok-finish.items.items in (
      datums items,
      over_made c.args.place g.P.Partial.value_of meant k.0 (datums items) k.1 (c.in-Ok-finish.ensures.value k.0 k.2),
      subst (λ xs. IsTextOf (datums xs) c.add.new.self.bytes.items c.add.new.self.items) c.deref.ensures.value (c.in_ok-add-in-Ok-finish.ensures [] c.nothing-text.ensures),
    )

pub returns-in-Err-finish-clause-value : goal.returns-in-Err-finish-clause-value
returns-in-Err-finish-clause-value g c = λ meant h.
    let k = subst (λ f. KeptIs (λ f ds. g.P.Partial.stands f.part ds) f meant) c.in-Ok.is h in
    subst (λ e. LeafFails e (value_over c.args.place g.P.Partial.value_of meant)) (sym (c.from.ensures ∙ ap of_evaluation c.of_operation.ensures))
    (function_fails c.args.place g.P.Partial.value_of c.in-Err-finish.fault meant k.0 k.1 (c.in-Err-finish.ensures.fault k.0 k.2))
