use Rattle.std.proofs.Common.{ℕ, ◌+◌, length, ap, subst}
use Rattle.query_tree.specs.BoundViews.{bound_clauses}
use Rattle.piece_run.specs.Ends.{numbers, numbers_end}
use Rattle.piece_run.specs.Outcomes.{EndsAs}
use Rattle.piece_run.proofs.EndCarries.{how_many_bound, end_outcome}
use Rattle.query_meaning.specs.inside.Views.{environment_of, eval_in}
use Rattle.clause_eval.specs.Frames.{tuples_of}
use Rattle.piece_run.specs.Outcomes.{CameIs, passed}
use Rattle.piece_run.proofs.stage.NarrowSteps.carry_numbers.Goals as goal

pub returns-clause-outcome : goal.returns-clause-outcome
returns-clause-outcome g c =
    let s = c.args.self.now in let env = c.args.env.now in
    end_outcome (CameIs g.I.ItemsKept.stands) (eval_in env) (environment_of env) s.first (s.first + length s.clauses.now) c.args.limit (bound_clauses s.clauses.now) (tuples_of c.args.frames) c.in_ok-progress.progress c.numbers_told.result numbers
    (ap (λ (n : ℕ). s.first + n) (how_many_bound s.clauses.now)) c.last.ensures.after_one c.requires.below c.in_ok-progress.ensures.carry
    (subst (λ (n : ℕ). EndsAs (CameIs g.I.ItemsKept.stands) n c.args.limit (numbers_end n) (passed c.in_ok-progress.progress) c.numbers_told.result) c.last.ensures.number c.numbers_told.ensures.ends)
