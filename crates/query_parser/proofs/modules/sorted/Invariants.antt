use Rattle.std.proofs.Common.{◌≡◌, ◌++◌, length}
use Rattle.std.specs.Vec.Iter.{into_iter_items, into_iter_len}
use Rattle.query_parser.specs.Views.{variables_of, functions_of}
use Rattle.query_parser.proofs.modules.sorted.Given as goal

abbrev pub invariant-loop-declared : goal.invariant-loop-declared
invariant-loop-declared g l = (l.variables.items ++ variables_of (into_iter_items l.declared-iterator) ≡ variables_of (into_iter_items l.initial.declared-iterator))
    × (l.functions.items ++ functions_of (into_iter_items l.declared-iterator) ≡ functions_of (into_iter_items l.initial.declared-iterator))
    × (into_iter_len l.declared-iterator ≡ length (into_iter_items l.declared-iterator))
