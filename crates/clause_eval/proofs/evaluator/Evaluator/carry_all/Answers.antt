use Rattle.std.proofs.Common.{rules}
use Rattle.std.specs.Vec.Iter.{into_iter_items, into_iter_len}
use Rattle.query_meaning.specs.inside.Views.{environment_of, eval_in}
use Rattle.clause_eval.specs.Carrying.{body_tree}
use Rattle.clause_eval.specs.Frames.{frame_tuples}
use Rattle.clause_eval.proofs.Carrying.{rest_turn, rest_done, left_counted}
use Rattle.clause_eval.proofs.evaluator.Evaluator.carry_all.Goals as goal

pub loop-frame-preserved : goal.loop-frame-preserved
loop-frame-preserved g c =
    let env = c.args.env.now in (
      rest_turn (eval_in env) (environment_of env) c.args.number c.args.clauses.now (body_tree c.args.body) (frame_tuples (into_iter_items c.into_iter-frame-iterator.result))
          (into_iter_items c.loop-frame.frame-iterator) (into_iter_items c.next.new.self) c.in-Some.frame c.args.progress.now c.loop-frame.progress c.carry_one.new.progress
          c.in-Some.ensures.steps.0 c.loop-frame.invariant.0 c.in_ok-room.ensures.carries,
      left_counted (into_iter_items c.loop-frame.frame-iterator) (into_iter_items c.next.new.self) c.in-Some.frame (into_iter_len c.loop-frame.frame-iterator) (into_iter_len c.next.new.self) c.in-Some.ensures.steps.0 c.in-Some.ensures.steps.1 c.loop-frame.invariant.1,
      c.in_ok-room.ensures.room,
    )

pub returns : goal.returns
returns g c =
    let env = c.args.env.now in
    rest_done (eval_in env) (environment_of env) c.args.number c.args.clauses.now (body_tree c.args.body) c.args.frames.items (into_iter_items c.into_iter-frame-iterator.result) (into_iter_items c.loop-frame.frame-iterator) c.args.progress.now c.loop-frame.progress (into_iter_len c.loop-frame.frame-iterator)
    (search rules) c.loop-frame.invariant.1 c.in-None.ensures.steps.0 c.loop-frame.invariant.0
