use Rattle.std.proofs.Common.{ap, ◌∙◌}
use Rattle.static_rules.specs.declared.rules.Rule.TheVariants.{UnknownType}
use Rattle.static_rules.specs.Walks.{tested}
use Rattle.static_rules.proofs.Testing.{type-tested}
use Rattle.static_rules.proofs.walk.Walk.seq_type.Goals as goal

pub returns-clause-walk : goal.returns-clause-walk
returns-clause-walk c = c.test.ensures ∙ ap (λ b. tested c.args.self.now b UnknownType c.args.t.now.place) c.is_unknown_type.ensures ∙ type-tested c.args.self.now c.args.t.now
