use Rattle.std.proofs.Common.{◌≡◌, take}
use Rattle.static_rules.proofs.leaves.copied_signs.Given as goal

abbrev pub invariant-loop-sign : goal.invariant-loop-sign
invariant-loop-sign l = l.out.items ≡ take l.sign-index l.signs
