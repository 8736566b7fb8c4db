use Rattle.std.proofs.Common.{◌+◌, ◌<◌, take, length, refl, arith}
use Rattle.query_tree.specs.BoundViews.{bound_tree, bound_clauses}
use Rattle.query_tree.specs.Scoped.{clause_slots}
use Rattle.query_meaning.specs.inside.Views.{environment_of, eval_in}
use Rattle.clause_eval.specs.Frames.{tuples_of}
use Rattle.clause_eval.proofs.Stages.{flwor_turn}
use Rattle.clause_eval.proofs.Segments.{segment_fails, segment_goes, clause_fails, end_less}
use Rattle.clause_eval.proofs.evaluator.Evaluator.flwor_rest.Goals as goal

pub returns-in-Err : goal.returns-in-Err
returns-in-Err g c =
    let env = c.args.env.now in let cs = c.args.clauses.now in let i = c.loop-frames.index in
    segment_fails (eval_in env) i c.narrow_count-count.result cs (bound_tree c.args.body.now) (environment_of env) (tuples_of c.loop-frames.frames) _
    c.narrow_count-count.ensures.within c.loop-frames.invariant.0 c.in-Err.fault (c.in-Err.ensures (clause_slots (bound_clauses (take i cs))))

pub returns-in-Err-clause : goal.returns-in-Err-clause
returns-in-Err-clause g c =
    let env = c.args.env.now in let cs = c.args.clauses.now in let i = c.loop-frames.index in let n = c.narrow_count-count.result in
    let goes = segment_goes (eval_in env) i n cs (bound_tree c.args.body.now) (environment_of env) (tuples_of c.loop-frames.frames) _
    c.narrow_count-count.ensures.within c.loop-frames.invariant.0 (tuples_of c.in-Ok.next) (c.in-Ok.ensures (clause_slots (bound_clauses (take i cs)))) in
    clause_fails (eval_in env) (i + n) cs c.index-clauses-end.result (bound_tree c.args.body.now) (environment_of env) (tuples_of c.in-Ok.next) _
    (end_less i n cs c.loop-frames.invariant.1 c.narrow_count-count.ensures.within c.if-count-rest.false) c.index-clauses-end.is goes c.in-Err-clause.fault c.in-Err-clause.ensures

pub loop-frames-preserved : goal.loop-frames-preserved
loop-frames-preserved g c =
    let env = c.args.env.now in let cs = c.args.clauses.now in let i = c.loop-frames.index in let n = c.narrow_count-count.result in
    let less : i + n < length cs = end_less i n cs c.loop-frames.invariant.1 c.narrow_count-count.ensures.within c.if-count-rest.false in
    let goes = segment_goes (eval_in env) i n cs (bound_tree c.args.body.now) (environment_of env) (tuples_of c.loop-frames.frames) _
    c.narrow_count-count.ensures.within c.loop-frames.invariant.0 (tuples_of c.in-Ok.next) (c.in-Ok.ensures (clause_slots (bound_clauses (take i cs)))) in (
      flwor_turn (eval_in env) (i + n + 1) (i + n) cs (take (i + n) cs) c.index-clauses-end.result (bound_tree c.args.body.now) (environment_of env) (tuples_of c.in-Ok.next) (tuples_of c.in-Ok-clause.gathered) _
          c.in-Ok-clause.ensures goes less c.index-clauses-end.is refl,
      (omega arith),
    )
