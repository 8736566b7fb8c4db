use Rattle.std.proofs.Common.{◌∙◌, ◌++◌, ◌<◌, ap, refl, subst}
use Rattle.item_tree.specs.Datum.{depth, array_of_list}
use Rattle.item_tree.specs.Item.{datums}
use Rattle.fn_objects.proofs.GroupLemmas.{deep_array}
use Rattle.fn_objects.proofs.gathering.gathered_array.Goals as goal

pub returns-in-Err-TooDeep-clause-fault : goal.returns-in-Err-TooDeep-clause-fault
returns-in-Err-TooDeep-clause-fault c =
    (refl, subst (λ vs. 128 < depth (array_of_list vs)) (ap datums (c.in_ok-append.ensures ∙ ap (λ xs. xs ++ c.args.values.now) c.in_ok-members.ensures.items)) (deep_array _ (rw c.in-Err-TooDeep.field-0-is at c.in-Err-TooDeep.ensures)))
