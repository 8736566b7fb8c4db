use Rattle.std.proofs.Common.{take, ◌-◌, length, ap, ◌∙◌}
use Rattle.name_scopes.specs.Scopes.{bound_after, is_between}
use Rattle.static_rules.specs.Behind.{below}
use Rattle.static_rules.proofs.Stacking.{bound-named}
use Rattle.static_rules.proofs.walk.Walk.is_between.Goals as goal

pub returns : goal.returns
returns c =
    c.is_between.ensures
    ∙ ap (λ s. is_between c.args.base c.args.mark s.names.variables c.args.name.now) c.self.view_is
    ∙ bound-named (bound_after c.args.base (below c.args.mark c.args.self.now.names).variables) c.args.name.now
