use Rattle.std.proofs.Common.{length, take, ◌-◌, ◌<◌, ◌≤◌, slice_get, sym, ap, subst, ◌∙◌}
use Rattle.std.specs.List.Sorted.{IsNonDecreasingBy, IsPartitionPoint}
use Rattle.std.specs.Str.{chars}
use Rattle.name_scopes.specs.Scopes.{first_bound}
use Rattle.name_scopes.specs.inside.Places.{bindings, last_place}
use Rattle.name_scopes.proofs.Bound.{stack-rises, last-found}
use Rattle.name_scopes.proofs.scope.Scope.last_place.Goals as goal

pub count_before-count-requires : goal.count_before-count-requires
count_before-count-requires g c =
    subst (IsNonDecreasingBy (λ x. x.at)) (sym c.stack_of-stack.ensures)
    (stack-rises c.self.inside.stacks (bindings c.self.inside.entries.items) c.self.invariant c.args.name.now c.as_str.result.now
    (ap chars (sym c.as_str.ensures.bytes) ∙ c.as_str.ensures.value) c.as_str.ensures.bytes)

pub returns : goal.returns
returns g c =
    let count = c.count_before-count.result in
    c.copied.ensures ∙ c.last.ensures.value
    ∙ ap (λ ps. slice_get (take count ps) (length (take count ps) - 1)) c.stack_of-stack.ensures
    ∙ last-found c.self.inside.stacks (bindings c.self.inside.entries.items) c.self.invariant c.args.name.now c.as_str.result.now
    (ap chars (sym c.as_str.ensures.bytes) ∙ c.as_str.ensures.value) c.as_str.ensures.bytes c.args.mark count
    (subst (λ ps. IsPartitionPoint (λ x. x.at < c.args.mark) (λ x. c.args.mark ≤ x.at) ps count) c.stack_of-stack.ensures c.count_before-count.ensures.split)
    ∙ ap (λ bs. last_place (first_bound c.args.mark bs) c.args.name.now) c.self.view_is
