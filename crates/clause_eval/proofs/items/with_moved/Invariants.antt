use Rattle.std.proofs.Common.{◌≡◌, ◌++◌, length}
use Rattle.std.specs.Vec.Iter.{into_iter_items, into_iter_len}
use Rattle.item_tree.specs.Item.{datums}
use Rattle.query_meaning.specs.inside.Views.{values_of}
use Rattle.clause_eval.proofs.items.with_moved.Given as goal

abbrev pub invariant-loop-item : goal.invariant-loop-item
invariant-loop-item l =
    (values_of l.out ++ datums (into_iter_items l.item-iterator)
    ≡ values_of l.fn.out ++ datums (into_iter_items l.initial.item-iterator))
    × (into_iter_len l.item-iterator ≡ length (into_iter_items l.item-iterator))
