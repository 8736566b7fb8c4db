use Rattle.std.proofs.Common.{◌≡◌, ◌++◌, length, map}
use Rattle.std.specs.Vec.Iter.{into_iter_items, into_iter_len}
use Rattle.query_grammar.specs.Nodes as n
use Rattle.query_parser.proofs.values.joined.Given as goal

abbrev pub invariant-loop-other : goal.invariant-loop-other
invariant-loop-other g l = (l.found.items ++ n.concat (map (λ v. v.items) (into_iter_items l.other-iterator)) ≡ l.initial.found.items ++ n.concat (map (λ v. v.items) (into_iter_items l.initial.other-iterator)))
    × (into_iter_len l.other-iterator ≡ length (into_iter_items l.other-iterator))
