use Rattle.std.proofs.Common.{◌≡◌, ◌∷◌, None, sym, subst, IfSome, IfNone}
use Rattle.json_text.specs.inside.Scan.{string_at}
use Rattle.json_text.specs.Escapes.{Begins}
use Rattle.json_text.proofs.EscapeLemmas.{front_is, nothing_escaped, escape_begins, no_escape}
use Rattle.json_text.proofs.escapes.escape_at.Goals as goal

pub returns-in-empty-clause-none : goal.returns-in-empty-clause-none
returns-in-empty-clause-none c = nothing_escaped c.args.text.now c.in-empty.len_below

pub returns-in-len1-up-clause-some : goal.returns-in-len1-up-clause-some
returns-in-len1-up-clause-some c =
    let e = c.escape_from.ensures in
    subst (λ t. IfSome c.escape_from.result (λ x. Begins (92 ∷ t) x.0 x.1.now)) (sym (front_is c.args.text.now c.in-len1-up.len_at_least))
    (escape_begins (λ x. (x.0, x.1.now)) _ c.escape_from.result e.value e.within e.sound)

pub returns-in-len1-up-clause-none : goal.returns-in-len1-up-clause-none
returns-in-len1-up-clause-none c =
    subst (λ t. IfNone c.escape_from.result (string_at (92 ∷ t) ≡ None)) (sym (front_is c.args.text.now c.in-len1-up.len_at_least))
    (no_escape (λ x. (x.0, x.1.now)) _ c.escape_from.result c.escape_from.ensures.value)
