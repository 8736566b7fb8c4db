use Rattle.std.proofs.Common.{ap, ◌∙◌}
use Rattle.static_rules.specs.declared.rules.Rule.TheVariants.{UnknownCastType}
use Rattle.static_rules.specs.Walks.{tested}
use Rattle.static_rules.proofs.Testing.{cast-tested}
use Rattle.static_rules.proofs.walk.Walk.cast_type.Goals as goal

pub returns-clause-walk : goal.returns-clause-walk
returns-clause-walk c = c.test.ensures ∙ ap (λ b. tested c.args.self.now b UnknownCastType c.args.t.now.place) c.is_unknown_cast_type.ensures ∙ cast-tested c.args.self.now c.args.t.now
