use Rattle.std.proofs.Common.{◌≡◌, drop}
use Rattle.outside.specs.InMemory.{world_of}
use Rattle.outside.proofs.NameLemmas.{differ}
use Rattle.outside.proofs.names.names_differ.Given as goal

abbrev pub invariant-loop-at : goal.invariant-loop-at
invariant-loop-at l = differ (world_of (drop l.at l.files)) ≡ differ (world_of l.files)
