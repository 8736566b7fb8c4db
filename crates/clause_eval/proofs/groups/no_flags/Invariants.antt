use Rattle.std.proofs.Common.{◌≡◌, [], map}
use Rattle.std.specs.List.{range_with_len}
use Rattle.group_table.specs.Groups.{has_slot}
use Rattle.clause_eval.proofs.groups.no_flags.Given as goal

abbrev pub invariant-loop-slot : goal.invariant-loop-slot
invariant-loop-slot l = l.flags.items ≡ map (has_slot []) (range_with_len 0 l.slot)
