use Rattle.std.proofs.Common.{◌≡◌, ℕ, ◌+◌, length, ap, subst, ◌∙◌, None, arith}
use Rattle.query_tree.specs.BoundViews.{bound_clauses}
use Rattle.query_meaning.specs.inside.Views.{environment_of, eval_in}
use Rattle.stage_laws.specs.Laws.{IsCarry}
use Rattle.stage_laws.specs.Tuples.{as_told}
use Rattle.clause_eval.specs.Frames.{tuples_of}
use Rattle.clause_eval.specs.Carrying as run
use Rattle.piece_run.specs.Phases.{lower}
use Rattle.piece_run.proofs.stage.NarrowSteps.through.Goals as goal

pub returns-clause-carry : goal.returns-clause-carry
returns-clause-carry g c = λ l h.
    let s = c.args.self.now in let env = c.args.env.now in
    let i : s.first + length s.clauses.now + 0 ≡ l + 1 = omega (arith, h) in
    subst (λ (n : ℕ). IsCarry s.first l (run.stage_from (eval_in env) s.first (bound_clauses s.clauses.now) None (environment_of env)) (tuples_of c.args.frames) n (as_told (run.so_far c.in_ok-progress.progress)))
    (c.lower-below.ensures ∙ ap (lower c.args.limit) c.last.ensures.number) (c.in_ok-progress.ensures.carry l i)
