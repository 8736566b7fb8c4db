use Rattle.std.proofs.Common.{◌≡◌, rules, [], ◌∷◌, ◌++◌, sym, subst}
use Rattle.query_meaning.specs.Outcome.{with_front}
use Rattle.query_meaning.specs.inside.Gives.{Gives}
use Rattle.clause_eval.specs.Frames.{frame_tuple, tuples_of}
use Rattle.clause_eval.proofs.Fronts.{items_bound}
use Rattle.clause_eval.proofs.bindings.bound_tuples.Goals as goal

pub returns-in-Some : goal.returns-in-Some
returns-in-Some c =
    let by = c.args.by.now in
    let others = c.in-Some.others.now in
    let last = c.in-Some.last.now in
    let whole : c.args.items.now ≡ others ++ last ∷ [] = search rules in
    subst (λ o. Gives tuples_of c.bound_all.result (with_front (tuples_of c.args.out) o))
    (sym (items_bound by.variable.now by.of.now c.args.allowing_empty by.at.now
    (frame_tuple c.args.frame) c.args.items.now others last whole))
    c.bound_all.ensures
