use Rattle.std.proofs.Common.{map, is_some, sym, ap, subst, ◌∙◌}
use Rattle.std.proofs.lemmas.List.{length-map}
use Rattle.std.specs.Str.{chars}
use Rattle.name_scopes.specs.inside.Places.{placed}
use Rattle.name_scopes.specs.inside.Firsts.{function_of, AreFirsts}
use Rattle.name_scopes.proofs.Declared.{functions-push, firsts-noted}
use Rattle.name_scopes.proofs.functions.Functions.push.Goals as goal

pub invariant_of-self-3 : goal.invariant_of-self-3
invariant_of-self-3 c =
    let items = c.reserve.new.self.items in
    subst (AreFirsts c.note_first.new.firsts) (sym (ap (λ fs. map function_of fs) c.push_reserved.ensures.items ∙ functions-push items _))
    (firsts-noted c.is_some-known.result c.self.inside.firsts c.note_first.new.firsts (map function_of items) c.args.name.now c.as_str.result.now c.args.arity _
    (subst (λ fs. AreFirsts c.self.inside.firsts (map function_of fs)) (sym c.reserve.ensures.items) c.self.invariant)
    (ap chars (sym c.as_str.ensures.bytes) ∙ c.as_str.ensures.value) c.as_str.ensures.bytes
    (ap (λ n. placed n c.args.arity) (c.len.ensures ∙ c.reserve.new.self.ok.0 ∙ sym (length-map items function_of)))
    (c.is_some-known.ensures ∙ ap is_some c.position.ensures)
    c.in_ok-note_first.ensures.ok)
