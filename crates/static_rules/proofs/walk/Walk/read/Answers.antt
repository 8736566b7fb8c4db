use Rattle.std.proofs.Common.{not, is_some, sym, ap, ◌∙◌}
use Rattle.static_rules.specs.declared.rules.Rule.TheVariants.{UnboundVariable}
use Rattle.static_rules.specs.Walks.{tested}
use Rattle.static_rules.proofs.Stacking.{read-tested, un-not}
use Rattle.static_rules.proofs.walk.Walk.read.Goals as goal

pub returns-clause-walk : goal.returns-clause-walk
returns-clause-walk c = c.test.ensures ∙ ap (λ b. tested c.args.self.now b UnboundVariable c.args.place) (un-not _ _ (sym c.is_none.ensures) ∙ ap (λ o. not (is_some o)) c.find-found.ensures) ∙ read-tested c.args.self.now c.args.name.now c.args.place
