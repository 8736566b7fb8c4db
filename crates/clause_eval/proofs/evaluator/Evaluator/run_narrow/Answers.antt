use Rattle.std.proofs.Common.{◌≡◌, ◌+◌, ◌≤◌, ◌==◌, ℕ, length, ap, ◌∙◌, arith}
use Rattle.stage_laws.specs.Tuples.{opening_known}
use Rattle.query_meaning.specs.inside.Views.{environment_of, eval_in}
use Rattle.clause_eval.specs.Carrying.{body_tree, steps_of, nothing_came}
use Rattle.clause_eval.specs.Frames.{tuples_of}
use Rattle.clause_eval.proofs.NarrowRuns.{carried_runs, carried_ends}
use Rattle.clause_eval.proofs.evaluator.Evaluator.run_narrow.Goals as goal

pub returns-clause-runs : goal.returns-clause-runs
returns-clause-runs g c = λ last h stream.
    let env = c.args.env.now in let body = body_tree c.args.body in let cs = c.args.clauses.now in
    let full : c.past-full.result ≡ last + 1 = c.past-full.ensures ∙ h in
    let le : c.args.limit ≤ c.args.number + length cs + steps_of body = c.requires.below in
    let e : c.args.number + length cs + steps_of body ≡ last + 1 = h in
    carried_runs (eval_in env) c.args.number cs body (environment_of env) last c.args.limit h (tuples_of c.args.frames) c.in_ok-progress.progress c.carry_all.new.progress
    (omega arith) (c.in_ok-progress.ensures.what ∙ ap (λ (n : ℕ). opening_known (c.args.limit == n) c.args.limit nothing_came) full) c.in_ok-progress.ensures.none c.in_ok-carry_all.ensures
    stream c.requires.are_narrow

pub returns-clause-carry : goal.returns-clause-carry
returns-clause-carry g c = λ last h.
    let env = c.args.env.now in let body = body_tree c.args.body in let cs = c.args.clauses.now in
    let full : c.past-full.result ≡ last + 1 = c.past-full.ensures ∙ h in
    let le : c.args.limit ≤ c.args.number + length cs + steps_of body = c.requires.below in
    let e : c.args.number + length cs + steps_of body ≡ last + 1 = h in
    carried_ends (eval_in env) c.args.number cs body (environment_of env) last c.args.limit h (tuples_of c.args.frames) c.in_ok-progress.progress c.carry_all.new.progress
    (omega arith) (c.in_ok-progress.ensures.what ∙ ap (λ (n : ℕ). opening_known (c.args.limit == n) c.args.limit nothing_came) full) c.in_ok-progress.ensures.none c.in_ok-carry_all.ensures

pub returns-clause-first : goal.returns-clause-first
returns-clause-first g c = c.in_ok-carry_all.ensures.first ∙ c.in_ok-progress.ensures.first

pub returns-clause-counts : goal.returns-clause-counts
returns-clause-counts g c =
    let full : c.past-full.result ≡ c.args.number + length c.args.clauses.now + steps_of (body_tree c.args.body) = c.past-full.ensures in
    let opened : c.args.number + length c.in_ok-progress.progress.into.taken.items ≡ c.past-full.result + 1 = c.in_ok-progress.ensures.length in
    let kept : length c.carry_all.new.progress.into.taken.items ≡ length c.in_ok-progress.progress.into.taken.items = c.in_ok-carry_all.ensures.fits in
    omega arith
