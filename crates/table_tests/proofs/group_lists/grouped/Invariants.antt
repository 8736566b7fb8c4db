use Rattle.std.proofs.Common.{◌≡◌, ◌∷◌, []}
use Rattle.table_tests.proofs.group_lists.grouped.Given as goal

abbrev pub invariant-loop-letter : goal.invariant-loop-letter
invariant-loop-letter l = l.table ≡ record { width = 3; keys = 1 ∷ []; joined = 2 ∷ []; seed = 0; groups = l.table.groups }
