use Rattle.std.proofs.Common.{◌≡◌, ◌++◌, drop}
use Rattle.item_tree.specs.Item.{datums}
use Rattle.query_meaning.specs.inside.Views.{values_of}
use Rattle.clause_eval.proofs.items.with_copies.Given as goal

abbrev pub invariant-loop-item : goal.invariant-loop-item
invariant-loop-item l =
    values_of l.out ++ datums (drop l.item-index l.items) ≡ values_of l.fn.out ++ datums l.items
