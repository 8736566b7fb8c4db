use Rattle.std.proofs.Common.{option_map, sym, ap, ◌∙◌}
use Rattle.name_scopes.specs.Scopes.{first_bound}
use Rattle.name_scopes.proofs.Bound.{value-place}
use Rattle.name_scopes.proofs.scope.Scope.latest_below.Goals as goal

pub returns-in-Some : goal.returns-in-Some
returns-in-Some g c =
    sym (value-place (first_bound c.args.mark c.args.self.now) c.args.name.now ∙ ap (option_map (λ x. x.value)) (sym c.in-Some.ensures))

pub returns-in-None : goal.returns-in-None
returns-in-None g c =
    sym (value-place (first_bound c.args.mark c.args.self.now) c.args.name.now ∙ ap (option_map (λ x. x.value)) (sym c.in-None.ensures))
