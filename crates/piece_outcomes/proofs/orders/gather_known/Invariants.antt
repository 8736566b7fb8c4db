use Rattle.std.proofs.Common.{[], length}
use Rattle.std.specs.Vec.Iter.{into_iter_items}
use Rattle.stage_laws.specs.Pieces.{nothing_yet}
use Rattle.stage_laws.specs.Ends.{in_order}
use Rattle.piece_outcomes.specs.Orders.{clash_at, SoFarIs, DoneIs, AllWide, KnownWide}
use Rattle.piece_outcomes.proofs.Gathering.{Left}
use Rattle.piece_outcomes.proofs.orders.gather_known.Given as goal

abbrev pub invariant-loop-d : goal.invariant-loop-d
invariant-loop-d g l = record {
  wide : AllWide (length l.places) (into_iter_items l.d-iterator);
  known_wide : KnownWide (length l.places) l.all.what;
  known : Left (in_order l.step (clash_at l.places)) (nothing_yet []) (SoFarIs g.W.Kept.stands) (DoneIs g.W.Kept.stands) l.fn.done.items (into_iter_items l.d-iterator) l.all;
}
