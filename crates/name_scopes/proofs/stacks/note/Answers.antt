use Rattle.std.proofs.Common.{◌≡◌, ℕ, List, cond, Some, ◌++◌, ◌∷◌, [], sym, ap, subst, ◌∙◌, rules}
use Rattle.std.specs.Str.{bytes_eq}
use Rattle.name_scopes.specs.inside.Stacks.{stack_at}
use Rattle.name_scopes.proofs.Noted.{changed, unchanged, places_in, on_err}
use Rattle.name_scopes.proofs.stacks.note.Goals as goal

pub returns-in_err-push-in-Some-clause-err : goal.returns-in_err-push-in-Some-clause-err
returns-in_err-push-in-Some-clause-err g c =
    on_err c.from_residual.result
    (λ q. changed c.args.stacks.now (c.get_mut.follows.lender c.push.new.self) c.args.name.now (Some c.push.new.self) (λ ps. ps)
    ((c.get_mut.follows.holds c.push.new.self).3 (search rules))
    (c.in_err-push-in-Some.ensures.items ∙ ap places_in c.in-Some.ensures.value) q
    ∙ unchanged _ (stack_at c.args.stacks.now q))

pub returns-in_ok-push-in-Some-clause-ok : goal.returns-in_ok-push-in-Some-clause-ok
returns-in_ok-push-in-Some-clause-ok g c =
    changed c.args.stacks.now (c.get_mut.follows.lender c.push.new.self) c.args.name.now (Some c.push.new.self) (λ ps. ps ++ c.args.place ∷ [])
    ((c.get_mut.follows.holds c.push.new.self).3 (search rules))
    (c.in_ok-push-in-Some.ensures.items ∙ ap (λ o. places_in o ++ c.args.place ∷ []) c.in-Some.ensures.value)

pub returns-in_ok-insert-in-None-clause-ok : goal.returns-in_ok-insert-in-None-clause-ok
returns-in_ok-insert-in-None-clause-ok g c =
    let same = c.get_mut.follows.holds-at-none in
    subst (λ m. (q : List ℕ) → stack_at c.insert.new.self q ≡ cond (bytes_eq c.args.name.now q) (stack_at m q ++ c.args.place ∷ []) (stack_at m q)) same
    (changed c.get_mut.follows.lender-at-none c.insert.new.self c.args.name.now (Some c.push-in-None.new.self) (λ ps. ps ++ c.args.place ∷ [])
    c.in_ok-insert-in-None.ensures.updates
    (c.in_ok-push-in-None.ensures.items ∙ ap (λ ps. ps ++ c.args.place ∷ []) c.new-stack.ensures.items ∙ ap (λ o. places_in o ++ c.args.place ∷ []) c.in-None.ensures.value
    ∙ ap (λ m. stack_at m c.args.name.now ++ c.args.place ∷ []) (sym same)))
