use Rattle.std.proofs.Common.{◌≡◌, ◌++◌, drop}
use Rattle.query_tree.specs.Bindings.{numbers_of}
use Rattle.clause_eval.proofs.groups.numbers_of.Given as goal

abbrev pub invariant-loop-slot : goal.invariant-loop-slot
invariant-loop-slot l = (l.numbers.items ++ numbers_of (drop l.slot-index l.slots)) ≡ numbers_of l.slots
