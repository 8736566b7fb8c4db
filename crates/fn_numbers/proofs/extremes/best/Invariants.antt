use Rattle.std.proofs.Common.{◌≡◌, false, take, option_map}
use Rattle.item_tree.specs.Item.{datum, datums}
use Rattle.value_rules.specs.Numbers.{kin, best}
use Rattle.fn_numbers.specs.inside.Candidates.{is_mixed, goes_before}
use Rattle.fn_numbers.proofs.extremes.best.Given as goal

abbrev pub invariant-loop-x : goal.invariant-loop-x
invariant-loop-x l =
    is_mixed (kin (datums l.s)) ≡ false → option_map (λ x. datum x.now) l.found ≡ best (goes_before l.extreme) (datums (take l.x-index l.s))
