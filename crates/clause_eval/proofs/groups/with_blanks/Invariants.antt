use Rattle.std.proofs.Common.{◌≡◌, ◌++◌, map}
use Rattle.tuple_rows.specs.Tuples.{sequence}
use Rattle.clause_eval.specs.Positions.{blanks}
use Rattle.clause_eval.proofs.groups.with_blanks.Given as goal

abbrev pub invariant-loop-slot : goal.invariant-loop-slot
invariant-loop-slot l = map sequence l.slots.items ≡ map sequence l.fn.slots.items ++ blanks l.slot
