use Rattle.std.proofs.Common.{sym, ◌∙◌}
use Rattle.std.specs.Vec.Iter.{into_iter_items}
use Rattle.std.proofs.lemmas.List.{nil_from_length}
use Rattle.stage_laws.specs.Pieces.{nothing_yet}
use Rattle.piece_outcomes.specs.Came.{nothing_came, follow}
use Rattle.piece_outcomes.specs.Outcomes.{SoFarIs, DoneIs}
use Rattle.piece_outcomes.proofs.Gathering.{left_next, left_none}
use Rattle.piece_outcomes.proofs.items.gather_known.Goals as goal

pub loop-d-preserved : goal.loop-d-preserved
loop-d-preserved g c =
    left_next follow (nothing_yet nothing_came) (SoFarIs g.W.Kept.stands) (DoneIs g.W.Kept.stands) c.args.done.items (into_iter_items c.loop-d.d-iterator) (into_iter_items c.next.new.self) c.in-Some.d c.loop-d.all _
    c.in-Some.ensures.steps.0 c.loop-d.invariant c.in_ok-all-2.ensures

pub returns : goal.returns
returns g c =
    left_none follow (nothing_yet nothing_came) (SoFarIs g.W.Kept.stands) (DoneIs g.W.Kept.stands) c.args.done.items (into_iter_items c.loop-d.d-iterator) c.loop-d.all
    (nil_from_length _ (sym (c.loop-d.d-iterator.rest.ok.0) ∙ c.in-None.ensures.steps.0)) c.loop-d.invariant
