use Rattle.std.proofs.Common.{◌≡◌, ◌+◌, drop}
use Rattle.item_tree.specs.Item.{datums}
use Rattle.query_meaning.specs.Outcome.{each_from, with_front}
use Rattle.query_meaning.specs.inside.Views.{values_of}
use Rattle.expr_eval.specs.Fixed.{kept_by}
use Rattle.expr_eval.proofs.fixed.kept_by_truth.Given as goal

abbrev pub invariant-loop-item : goal.invariant-loop-item
invariant-loop-item l =
    (with_front (values_of l.out) (each_from (kept_by l.place (datums l.value)) (l.position + 1) (datums (drop l.item-index l.items)))
    ≡ each_from (kept_by l.place (datums l.value)) 1 (datums l.items))
    × (l.position ≡ l.item-index)
