use Rattle.std.proofs.Common.{◌≡◌, take, drop, map, []}
use Rattle.static_rules.specs.Mentions.{types_mentions}
use Rattle.static_rules.specs.Compiling.{placed_type}
use Rattle.static_rules.specs.Walks.{passed}
use Rattle.static_rules.proofs.leaves.seq_types.Given as goal

abbrev pub invariant-loop-t : goal.invariant-loop-t
invariant-loop-t l = (l.out.items ≡ map placed_type (take l.t-index l.types)) × (passed l.walk (types_mentions (drop l.t-index l.types)) [] ≡ passed l.initial.walk (types_mentions l.types) [])
