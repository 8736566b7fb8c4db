use Rattle.std.proofs.Common.{sym, ◌∙◌}
use Rattle.query_meaning.specs.inside.Views.{environment_of, eval_in}
use Rattle.clause_eval.specs.Carrying.{body_tree}
use Rattle.clause_eval.specs.Frames.{frame_tuple}
use Rattle.clause_eval.proofs.Waits.{left_begins, next_within, left_turn, left_fewer, left_ends}
use Rattle.clause_eval.proofs.evaluator.Evaluator.carry_one.Goals as goal

pub loop-top-init : goal.loop-top-init
loop-top-init g c = left_begins (eval_in c.args.env.now) (environment_of c.args.env.now) c.args.number c.args.clauses.now (body_tree c.args.body) (frame_tuple c.args.frame) c.args.room.items _ _ c.requires.room c.in_ok-waiting.ensures.waits

pub carry_top-requires-clause-within : goal.carry_top-requires-clause-within
carry_top-requires-clause-within g c = next_within (eval_in c.args.env.now) (environment_of c.args.env.now) c.args.number c.args.clauses.now (body_tree c.args.body) (frame_tuple c.args.frame) _ _ c.in-Some.top _ _ c.in-Some.ensures.items c.loop-top.invariant

pub loop-top-smaller : goal.loop-top-smaller
loop-top-smaller g c = left_fewer (eval_in c.args.env.now) (environment_of c.args.env.now) c.args.number c.args.clauses.now (body_tree c.args.body) _ _ _ c.in-Some.top _ _ c.in-Some.ensures.items c.in_ok-waiting-2.ensures

pub loop-top-preserved : goal.loop-top-preserved
loop-top-preserved g c = left_turn (eval_in c.args.env.now) (environment_of c.args.env.now) c.args.number c.args.clauses.now (body_tree c.args.body) (frame_tuple c.args.frame) _ _ _ c.in-Some.top _ _ _ _ _ c.in-Some.ensures.items c.loop-top.invariant c.in_ok-waiting-2.ensures

pub returns : goal.returns
returns g c = record {
  room = sym c.pop.new.self.ok.0 ∙ c.in_default.ensures.cases.1;
  carries = left_ends (eval_in c.args.env.now) (environment_of c.args.env.now) c.args.number c.args.clauses.now (body_tree c.args.body) (frame_tuple c.args.frame) c.loop-top.waiting.items _ _ (sym c.loop-top.waiting.ok.0 ∙ c.in_default.ensures.cases.0) c.loop-top.invariant;
}
