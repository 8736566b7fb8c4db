use Rattle.std.proofs.Common.{◌≡◌, take}
use Rattle.query_tree.specs.inside.Told.{with_names}
use Rattle.query_tree.proofs.distinct_names.DistinctNames.with_all.Given as goal

abbrev pub invariant-loop-name : goal.invariant-loop-name
invariant-loop-name l = l.all.found.items ≡ with_names l.fn.self.found.items (take l.name-index l.names)
