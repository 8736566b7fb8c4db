use Rattle.std.proofs.Common.{◌≡◌}
use Rattle.outside.specs.InMemory.{world_of}
use Rattle.outside.proofs.file_table.shared.Given as goal

abbrev pub invariant-loop-name : goal.invariant-loop-name
invariant-loop-name l = l.made.items ≡ world_of l.yielded
