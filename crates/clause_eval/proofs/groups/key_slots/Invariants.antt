use Rattle.std.proofs.Common.{◌≡◌}
use Rattle.clause_eval.specs.Positions.{numbers_from}
use Rattle.clause_eval.proofs.groups.key_slots.Given as goal

abbrev pub invariant-loop-n : goal.invariant-loop-n
invariant-loop-n l = l.slots.items ≡ numbers_from 1 l.n
