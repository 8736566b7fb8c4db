use Rattle.std.proofs.Common.{◌≡◌, take}
use Rattle.static_rules.proofs.leaves.copied_strings.Given as goal

abbrev pub invariant-loop-text : goal.invariant-loop-text
invariant-loop-text l = l.out.items ≡ take l.text-index l.texts
