use Rattle.std.specs.Vec.Iter.{into_iter_items}
use Rattle.stage_laws.specs.Pieces.{nothing_yet}
use Rattle.piece_outcomes.specs.Came.{nothing_came, follow}
use Rattle.piece_outcomes.specs.Outcomes.{SoFarIs, DoneIs}
use Rattle.piece_outcomes.proofs.Gathering.{Left}
use Rattle.piece_outcomes.proofs.items.gather_known.Given as goal

abbrev pub invariant-loop-d : goal.invariant-loop-d
invariant-loop-d g l =
    Left follow (nothing_yet nothing_came) (SoFarIs g.W.Kept.stands) (DoneIs g.W.Kept.stands) l.fn.done.items (into_iter_items l.d-iterator) l.all
