use Rattle.std.proofs.Common.{◌≡◌, drop}
use Rattle.item_tree.specs.Item.{datum, datums}
use Rattle.atom_ops.specs.Comparison.{comparison_with}
use Rattle.atom_ops.proofs.comparison.some_compares.Given as goal

abbrev pub invariant-loop-y : goal.invariant-loop-y
invariant-loop-y l =
    comparison_with l.op (datum l.x) (datums (drop l.y-index l.b)) ≡ comparison_with l.op (datum l.x) (datums l.b)
