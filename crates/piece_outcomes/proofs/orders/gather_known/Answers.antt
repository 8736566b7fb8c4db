use Rattle.std.proofs.Common.{[], List, length, sym, subst, ◌∙◌}
use Rattle.std.specs.Vec.Iter.{into_iter_items}
use Rattle.std.proofs.lemmas.List.{nil_from_length}
use Rattle.fault_merge.specs.declared.done.Done.{Done}
use Rattle.stage_laws.specs.Pieces.{nothing_yet}
use Rattle.stage_laws.specs.Ends.{in_order}
use Rattle.piece_outcomes.specs.declared.outcome.OrderCounted.{OrderCounted}
use Rattle.piece_outcomes.specs.Orders.{clash_at, SoFarIs, DoneIs, AllWide}
use Rattle.piece_outcomes.proofs.Gathering.{left_next, left_none}
use Rattle.piece_outcomes.proofs.orders.gather_known.Goals as goal

pub loop-d-preserved : goal.loop-d-preserved
loop-d-preserved g c = record {
  wide = (subst (λ (ds : List (Done (OrderCounted _))). AllWide (length c.args.places.now) ds) c.in-Some.ensures.steps.0 c.loop-d.invariant.wide).1;
  known_wide = c.in_ok-all-2.ensures.wide;
  known = left_next (in_order c.args.step (clash_at c.args.places.now)) (nothing_yet []) (SoFarIs g.W.Kept.stands) (DoneIs g.W.Kept.stands) c.args.done.items (into_iter_items c.loop-d.d-iterator) (into_iter_items c.next.new.self) c.in-Some.d c.loop-d.all _
      c.in-Some.ensures.steps.0 c.loop-d.invariant.known c.in_ok-all-2.ensures.known;
}

pub returns : goal.returns
returns g c =
    left_none (in_order c.args.step (clash_at c.args.places.now)) (nothing_yet []) (SoFarIs g.W.Kept.stands) (DoneIs g.W.Kept.stands) c.args.done.items (into_iter_items c.loop-d.d-iterator) c.loop-d.all
    (nil_from_length _ (sym (c.loop-d.d-iterator.rest.ok.0) ∙ c.in-None.ensures.steps.0)) c.loop-d.invariant.known
