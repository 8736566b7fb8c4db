use Rattle.std.proofs.Common.{◌≡◌, take}
use Rattle.part_writer.specs.Parts.{parts_from}
use Rattle.part_list.specs.Lists.{list_of}
use Rattle.part_list.proofs.list_parts.Given as goal

-- as many lines as turns
abbrev pub invariant-loop-number : goal.invariant-loop-number
invariant-loop-number l = l.list.items ≡ list_of (parts_from 0 l.text (take l.number l.ranges))
