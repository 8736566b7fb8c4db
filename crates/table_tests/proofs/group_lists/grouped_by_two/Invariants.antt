use Rattle.std.proofs.Common.{◌≡◌, ◌∷◌, []}
use Rattle.table_tests.proofs.group_lists.grouped_by_two.Given as goal

abbrev pub invariant-loop-word : goal.invariant-loop-word
invariant-loop-word l = l.table ≡ record { width = 3; keys = 0 ∷ 1 ∷ []; joined = 2 ∷ []; seed = 20130819; groups = l.table.groups }
