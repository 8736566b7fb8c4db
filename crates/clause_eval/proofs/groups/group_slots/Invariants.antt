use Rattle.std.proofs.Common.{◌≡◌, ◌++◌, drop, map}
use Rattle.query_meaning.specs.inside.Views.{tuple_of}
use Rattle.clause_eval.specs.Frames.{frame_tuples}
use Rattle.clause_eval.specs.Positions.{tuple_at, slots_from}
use Rattle.clause_eval.proofs.groups.group_slots.Given as goal

abbrev pub invariant-loop-joined : goal.invariant-loop-joined
invariant-loop-joined l =
    ((tuple_of l.slots.items ++ slots_from l.i (drop l.joined-index l.flags) (map (tuple_at (frame_tuples l.frames)) l.places))
    ≡ slots_from 0 l.flags (map (tuple_at (frame_tuples l.frames)) l.places))
    × (l.i ≡ l.joined-index)
