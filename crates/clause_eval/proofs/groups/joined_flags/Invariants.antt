use Rattle.std.proofs.Common.{◌≡◌, map, take}
use Rattle.std.specs.List.{range_with_len}
use Rattle.group_table.specs.Groups.{has_slot}
use Rattle.clause_eval.proofs.groups.joined_flags.Given as goal

abbrev pub invariant-loop-slot : goal.invariant-loop-slot
invariant-loop-slot l =
    l.flags.items ≡ map (has_slot (take l.slot-index l.joined)) (range_with_len 0 l.width)
