use Rattle.std.proofs.Common.{ap, subst, ◌∙◌}
use Rattle.name_scopes.specs.inside.Places.{binding_of, bindings, AreStacks}
use Rattle.name_scopes.proofs.Bound.{bindings-push, stacks-pop}
use Rattle.name_scopes.proofs.scope.Scope.pop.Goals as goal

pub invariant_of-self : goal.invariant_of-self
invariant_of-self g c =
    stacks-pop c.self.inside.stacks c.forget.new.stacks (bindings c.pop.new.self.items) (binding_of c.in-Some.entry) c.as_str.result.now
    (subst (AreStacks c.self.inside.stacks) (ap bindings c.in-Some.ensures.items ∙ bindings-push c.pop.new.self.items c.in-Some.entry) c.self.invariant)
    c.as_str.ensures.bytes c.forget.ensures
