use Rattle.std.proofs.Common.{map, sym, ap, ◌∙◌}
use Rattle.std.specs.Str.{chars}
use Rattle.name_scopes.specs.Functions.{function_position}
use Rattle.name_scopes.specs.inside.Firsts.{function_of, place_with}
use Rattle.name_scopes.proofs.Declared.{first-found}
use Rattle.name_scopes.proofs.functions.Functions.position.Goals as goal

pub returns : goal.returns
returns c =
    c.place_with.ensures ∙ ap (λ ps. place_with ps c.args.arity) c.stack_of.ensures
    ∙ first-found c.self.inside.firsts (map function_of c.self.inside.all.items) c.self.invariant c.args.name.now c.as_str.result.now
    (ap chars (sym c.as_str.ensures.bytes) ∙ c.as_str.ensures.value) c.as_str.ensures.bytes c.args.arity
    ∙ ap (λ fs. function_position fs c.args.name.now c.args.arity) c.self.view_is
