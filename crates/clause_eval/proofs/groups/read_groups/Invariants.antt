use Rattle.std.proofs.Common.{◌≡◌, ◌++◌, map}
use Rattle.std.specs.Vec.Iter.{into_iter_items}
use Rattle.tuple_rows.specs.Tuples.{row_list}
use Rattle.clause_eval.specs.Frames.{frame_tuples, tuples_of}
use Rattle.clause_eval.specs.Positions.{read_group}
use Rattle.clause_eval.proofs.groups.read_groups.Given as goal

abbrev pub invariant-loop-row : goal.invariant-loop-row
invariant-loop-row l =
    (tuples_of l.out ++ map (read_group l.flags l.numbers (frame_tuples l.frames)) (row_list (into_iter_items l.row-iterator)))
    ≡ map (read_group l.flags l.numbers (frame_tuples l.frames)) (row_list (into_iter_items l.initial.row-iterator))
