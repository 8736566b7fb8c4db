use Rattle.std.proofs.Common.{not, ap, ◌∙◌}
use Rattle.std.specs.Prelude.{unwrap_or}
use Rattle.query_tree.specs.declared.bound.Slot.TheVariants.{Local}
use Rattle.static_rules.specs.declared.rules.Rule.TheVariants.{NoStreamVariable}
use Rattle.static_rules.specs.Walks.{tested, slot_found}
use Rattle.static_rules.specs.Behind.{stream_of, below}
use Rattle.static_rules.proofs.Stacking.{slot-found, group-tested}
use Rattle.static_rules.proofs.walk.Walk.group.Goals as goal

pub returns-clause-slot : goal.returns-clause-slot
returns-clause-slot c = c.unwrap_or.ensures ∙ ap (λ o. unwrap_or o (Local 0)) (c.latest_below-found.ensures ∙ ap (λ s. slot_found (below c.args.mark s.names).variables c.args.name.now) c.self.view_is) ∙ slot-found (below c.args.mark c.args.self.now.names).variables c.args.name.now

pub returns-clause-walk : goal.returns-clause-walk
returns-clause-walk c =
    c.test.ensures ∙ ap (λ b. tested c.args.self.now (not b) NoStreamVariable c.args.place) c.is_between-known.ensures
    ∙ group-tested c.args.self.now c.args.name.now (stream_of c.args.base (below c.args.mark c.args.self.now.names)) c.args.place
