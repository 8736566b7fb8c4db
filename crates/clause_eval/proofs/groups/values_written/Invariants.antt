use Rattle.std.proofs.Common.{◌≡◌, map, length}
use Rattle.std.specs.Vec.Iter.{into_iter_items, into_iter_len}
use Rattle.tuple_rows.specs.Tuples.{sequence}
use Rattle.query_meaning.specs.inside.Views.{tuple_of}
use Rattle.clause_eval.specs.Positions.{values_written}
use Rattle.clause_eval.proofs.groups.values_written.Given as goal

abbrev pub invariant-loop-items : goal.invariant-loop-items
invariant-loop-items l =
    (values_written l.left (map sequence (into_iter_items l.items-iterator)) (tuple_of l.slots.items)
    ≡ values_written l.numbers (map sequence l.fn.values.items) (tuple_of l.fn.slots.items))
    × (into_iter_len l.items-iterator ≡ length (into_iter_items l.items-iterator))
