use Rattle.std.proofs.Common.{◌≡◌, drop}
use Rattle.item_tree.specs.Item.{datums}
use Rattle.value_rules.specs.Numbers.{joined_kin, kin}
use Rattle.fn_numbers.specs.inside.Candidates.{kin_value}
use Rattle.fn_numbers.proofs.kinds.kin_of_all.Given as goal

abbrev pub invariant-loop-x : goal.invariant-loop-x
invariant-loop-x l = joined_kin (kin_value l.all) (kin (datums (drop l.x-index l.s))) ≡ kin (datums l.s)
