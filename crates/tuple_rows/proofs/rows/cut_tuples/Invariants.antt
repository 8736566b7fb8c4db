use Rattle.std.specs.Vec.Iter.{into_iter_items}
use Rattle.tuple_rows.specs.Tuples.{row_list}
use Rattle.tuple_rows.proofs.Cutting.{Cutting}
use Rattle.tuple_rows.proofs.rows.cut_tuples.Given as goal

abbrev pub invariant-loop-tuple : goal.invariant-loop-tuple
invariant-loop-tuple l =
    Cutting l.width l.size (row_list l.fn.tuples.items) l.whole.items l.piece.items (into_iter_items l.tuple-iterator)
