use Rattle.std.proofs.Common.{◌≡◌, ◌++◌, drop, map}
use Rattle.std.specs.List.{flat_map}
use Rattle.group_table.specs.Groups.{slot}
use Rattle.query_meaning.specs.inside.Views.{values_of}
use Rattle.clause_eval.specs.Frames.{frame_tuples}
use Rattle.clause_eval.specs.Positions.{tuple_at}
use Rattle.clause_eval.proofs.groups.joined_items.Given as goal

abbrev pub invariant-loop-place : goal.invariant-loop-place
invariant-loop-place l =
    (values_of l.out ++ flat_map (slot l.i) (map (tuple_at (frame_tuples l.frames)) (drop l.place-index l.places)))
    ≡ flat_map (slot l.i) (map (tuple_at (frame_tuples l.frames)) l.places)
