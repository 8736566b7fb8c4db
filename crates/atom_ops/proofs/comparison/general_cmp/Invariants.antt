use Rattle.std.proofs.Common.{◌≡◌, drop}
use Rattle.item_tree.specs.Item.{datums}
use Rattle.atom_ops.specs.Comparison.{general_comparison}
use Rattle.atom_ops.proofs.comparison.general_cmp.Given as goal

abbrev pub invariant-loop-x : goal.invariant-loop-x
invariant-loop-x l =
    general_comparison l.op (datums (drop l.x-index l.a)) (datums l.b) ≡ general_comparison l.op (datums l.a) (datums l.b)
