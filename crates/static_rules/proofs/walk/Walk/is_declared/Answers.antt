use Rattle.std.proofs.Common.{is_some, take, ap, ◌∙◌}
use Rattle.name_scopes.specs.Functions.{function_position}
use Rattle.static_rules.proofs.Lookups.{declared-before}
use Rattle.static_rules.proofs.walk.Walk.is_declared.Goals as goal

pub returns : goal.returns
returns c =
    c.is_among_first.ensures
    ∙ declared-before c.self.inside.functions c.args.self.now.names c.args.number c.args.name.now c.args.arity (ap (λ s. s.names.functions) c.self.view_is)
