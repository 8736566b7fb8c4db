use Rattle.std.proofs.Common.{◌≡◌, ◌+◌, List, [], length, subst, arith}
use Rattle.std.specs.Vec.Iter.{into_iter_items, into_iter_len}
use Rattle.query_tree.specs.BoundViews.{bound_order_keys}
use Rattle.query_meaning.specs.inside.Views.{environment_of, eval_in}
use Rattle.stage_laws.specs.Runs.{keyed_from}
use Rattle.clause_stages.specs.Ends.{tuple_keys, order_clash}
use Rattle.clause_eval.specs.declared.tuples.Frame.{Frame}
use Rattle.clause_eval.specs.Frames.{frame_tuples}
use Rattle.piece_run.specs.Ordering.{AllOrderedBy, FaultIs}
use Rattle.piece_run.proofs.OrderedNext.{ordered_turn, ordered_met, left_counted}
use Rattle.piece_run.proofs.ordering.ordered_tuples.Goals as goal

pub loop-frame-preserved : goal.loop-frame-preserved
loop-frame-preserved g c =
    let env = c.args.env.now in
    let its = into_iter_items c.loop-frame.frame-iterator in let left = into_iter_items c.next.new.self in
    let fewer : into_iter_len c.next.new.self + 1 ≡ into_iter_len c.loop-frame.frame-iterator = c.in-Some.ensures.steps.1 in
    let counted : c.loop-frame.position + into_iter_len c.loop-frame.frame-iterator ≡ c.len-count.result = c.loop-frame.invariant.3 in (
      ordered_turn (eval_in env) (bound_order_keys c.args.keys.now) (environment_of env) c.args.at c.loop-frame.position its left c.in-Some.frame _ c.loop-frame.ordered c.in-All.more c.in_ok-more.field-0
          c.in-Some.ensures.steps.0 c.loop-frame.invariant.0 c.in_ok-more.ensures.value c.in-All.is,
      subst (AllOrderedBy (length c.args.keys.now)) c.in-All.is c.in_ok-more.ensures.stands,
      left_counted its left c.in-Some.frame (into_iter_len c.loop-frame.frame-iterator) (into_iter_len c.next.new.self) c.in-Some.ensures.steps.0 fewer c.loop-frame.invariant.2,
      omega (arith, fewer, counted),
    )

pub returns-in-Met-clause-value : goal.returns-in-Met-clause-value
returns-in-Met-clause-value g c =
    let env = c.args.env.now in
    let its = into_iter_items c.loop-frame.frame-iterator in let left = into_iter_items c.next.new.self in
    subst (λ (l : List Frame). FaultIs (keyed_from c.args.at (tuple_keys (eval_in env) (bound_order_keys c.args.keys.now) (environment_of env)) (order_clash (bound_order_keys c.args.keys.now)) [] 1 (frame_tuples l)) c.in-Met.m c.in-Met.seen)
    c.into_iter-frame-iterator.ensures.into_iter_gives.0
    (ordered_met (eval_in env) (bound_order_keys c.args.keys.now) (environment_of env) c.args.at c.loop-frame.position its left c.in-Some.frame _ c.loop-frame.ordered c.in_ok-more.field-0 c.in-Met.m c.in-Met.seen
    c.in-Some.ensures.steps.0 c.loop-frame.invariant.0 c.in_ok-more.ensures.value c.in-Met.is)
