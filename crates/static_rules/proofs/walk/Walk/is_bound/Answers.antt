use Rattle.std.proofs.Common.{is_some, sym, ap, ◌∙◌}
use Rattle.static_rules.proofs.Stacking.{has-found}
use Rattle.static_rules.proofs.walk.Walk.is_bound.Goals as goal

pub returns : goal.returns
returns c = c.is_some.ensures ∙ ap is_some c.find.ensures ∙ sym (has-found c.args.self.now.names.variables c.args.name.now)
