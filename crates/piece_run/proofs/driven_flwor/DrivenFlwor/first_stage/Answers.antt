use Rattle.std.proofs.Common.{◌≡◌, ◌+◌, ◌-◌, true, length, take, drop, ap, ◌∙◌, subst, arith}
use Rattle.std.proofs.lemmas.List.{length-drop}
use Rattle.query_tree.specs.BoundViews.{bound_clauses}
use Rattle.query_meaning.specs.Pieces.{are_narrow}
use Rattle.piece_run.specs.Flwors.{EndsIn}
use Rattle.piece_run.proofs.FlworParts.{Clauses, rest_is}
use Rattle.piece_run.proofs.driven_flwor.DrivenFlwor.first_stage.Goals as goal

pub returns-clause-count : goal.returns-clause-count
returns-clause-count g c =
    let f = c.args.self.now in
    let many : length (take (length f.clauses.now - (f.lets + 1)) (drop (f.lets + 1) f.clauses.now)) ≡ length f.clauses.now - (f.lets + 1) =
    ap length (rest_is (f.lets + 1) f.clauses.now) ∙ length-drop (f.lets + 1) f.clauses.now in
    let within = c.first_end-count.ensures.within in
    let less = c.requires.lets in
    omega (arith, many, within, less)

pub returns-clause-narrow : goal.returns-clause-narrow
returns-clause-narrow g c =
    let f = c.args.self.now in
    subst (λ (l : Clauses). are_narrow (bound_clauses (take c.first_end-count.result.0 l)) ≡ true) (rest_is (f.lets + 1) f.clauses.now) c.first_end-count.ensures.narrow

pub returns-clause-end : goal.returns-clause-end
returns-clause-end g c =
    let f = c.args.self.now in
    subst (λ (l : Clauses). EndsIn c.first_end-count.result.1 (drop c.first_end-count.result.0 l)) (rest_is (f.lets + 1) f.clauses.now) c.first_end-count.ensures.end
