use Rattle.std.proofs.Common.{sym, ◌∙◌, ap, subst}
use Rattle.std.specs.Str.{chars, IsUtf8}
use Rattle.json_text.specs.inside.Scan.{string_at}
use Rattle.item_reader.proofs.StringSteps.{text_there, string_refused, no_utf8}
use Rattle.item_reader.proofs.string.escaped_text.Goals as goal

pub text_of-requires : goal.text_of-requires
text_of-requires c = λ e. subst IsUtf8 (sym c.as_slice.ensures.value) ((rw c.in-Some.is at c.in_ok-rest.ensures.text) e)

pub returns-in_ok-of-in-Some-text_of : goal.returns-in_ok-of-in-Some-text_of
returns-in_ok-of-in-Some-text_of c =
    let found = rw c.in-Some.is at c.in_ok-rest.ensures.value in
    text_there c.args.line.now c.string.new.bytes.items c.in-Some.rest.now c.in_ok-of-in-Some-text_of.field-0 found
    (subst IsUtf8 c.as_slice.ensures.value c.in-Some-text_of.ensures.some.1)
    (c.in_ok-of-in-Some-text_of.ensures ∙ ap chars (c.in-Some-text_of.ensures.some.0 ∙ c.as_slice.ensures.value))

pub returns-in-None : goal.returns-in-None
returns-in-None c =
    let found = rw c.in-Some.is at c.in_ok-rest.ensures.value in
    string_refused (string_at c.args.line.now) c.string.new.bytes.items c.in-Some.rest.now found
    (no_utf8 _ (λ u. c.in-None.ensures.none (subst IsUtf8 (sym c.as_slice.ensures.value) u)))
