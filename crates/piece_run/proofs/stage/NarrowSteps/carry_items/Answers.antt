use Rattle.std.proofs.Common.{◌+◌, length, refl}
use Rattle.query_tree.specs.BoundViews.{bound_tree, bound_clauses}
use Rattle.query_meaning.specs.inside.Views.{environment_of, eval_in}
use Rattle.clause_eval.specs.Frames.{tuples_of}
use Rattle.piece_run.specs.Outcomes.{CameIs}
use Rattle.piece_run.proofs.EndCarries.{items_outcome}
use Rattle.piece_run.proofs.stage.NarrowSteps.carry_items.Goals as goal

pub returns-clause-outcome : goal.returns-clause-outcome
returns-clause-outcome g c =
    let s = c.args.self.now in let env = c.args.env.now in
    items_outcome (CameIs g.I.ItemsKept.stands) (eval_in env) (environment_of env) s.first (s.first + length s.clauses.now) c.args.limit (bound_clauses s.clauses.now) (tuples_of c.args.frames) c.in_ok-progress.progress
    (record { outcome = c.in_ok-outcome.outcome; into = c.in_ok-progress.progress.into }) (bound_tree c.args.body.now)
    (c.in_ok-progress.ensures.carry (s.first + length s.clauses.now) refl) c.in_ok-outcome.ensures (λ n. refl)
