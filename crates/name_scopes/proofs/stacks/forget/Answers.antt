use Rattle.std.proofs.Common.{Some, take, ◌-◌, sym, ap, ◌∙◌, rules}
use Rattle.name_scopes.specs.inside.Stacks.{without_last}
use Rattle.name_scopes.proofs.Noted.{changed, places_in}
use Rattle.name_scopes.proofs.stacks.forget.Goals as goal

pub returns-in-Some : goal.returns-in-Some
returns-in-Some g c =
    changed c.args.stacks.now (c.get_mut.follows.lender c.pop.new.self) c.args.name.now (Some c.pop.new.self) without_last
    ((c.get_mut.follows.holds c.pop.new.self).3 (search rules))
    (c.pop.ensures.rest ∙ ap (λ n. take (n - 1) c.in-Some.stack.now.items) c.in-Some.stack.now.ok.0 ∙ ap (λ o. without_last (places_in o)) c.in-Some.ensures.value)
