use Rattle.std.proofs.Common.{sym, ap, ◌∙◌}
use Rattle.name_scopes.specs.Scopes.{first_bound}
use Rattle.name_scopes.proofs.Bound.{is_after, between-place}
use Rattle.name_scopes.proofs.scope.Scope.is_between.Goals as goal

pub returns-in-Some : goal.returns-in-Some
returns-in-Some g c =
    sym (between-place c.args.base (first_bound c.args.mark c.args.self.now) c.args.name.now ∙ ap (is_after c.args.base) (sym c.in-Some.ensures))

pub returns-in-None : goal.returns-in-None
returns-in-None g c =
    sym (between-place c.args.base (first_bound c.args.mark c.args.self.now) c.args.name.now ∙ ap (is_after c.args.base) (sym c.in-None.ensures))
