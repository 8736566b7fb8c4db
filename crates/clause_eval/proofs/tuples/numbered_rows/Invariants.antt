use Rattle.std.proofs.Common.{◌≡◌, ◌+◌, ◌++◌, length}
use Rattle.std.specs.Vec.Iter.{into_iter_items, into_iter_len}
use Rattle.stage_laws.specs.Ends.{numbered_from}
use Rattle.clause_eval.specs.Frames.{frame_tuples, tuples_of}
use Rattle.clause_eval.specs.OneByOne.{with_number}
use Rattle.clause_eval.proofs.tuples.numbered_rows.Given as goal

abbrev pub invariant-loop-frame : goal.invariant-loop-frame
invariant-loop-frame l =
    (tuples_of l.out ++ numbered_from (with_number l.variable) (l.n + 1) (frame_tuples (into_iter_items l.frame-iterator))
    ≡ numbered_from (with_number l.variable) 1 (frame_tuples (into_iter_items l.initial.frame-iterator)))
    × (into_iter_len l.frame-iterator ≡ length (into_iter_items l.frame-iterator))
    × (l.n + into_iter_len l.frame-iterator ≡ l.count)
