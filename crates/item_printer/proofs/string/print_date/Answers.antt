use Rattle.std.proofs.Common.{◌≡◌, ◌∙◌, sym, ap}
use Rattle.std.specs.Str.{encode_utf8_all}
use Rattle.std.proofs.lemmas.Str.{encodes-chars}
use Rattle.item_printer.proofs.StringTexts.{characters_text_of}
use Rattle.item_printer.proofs.string.print_date.Goals as goal

pub returns-clause-ok : goal.returns-clause-ok
returns-clause-ok c =
    let s = sym (encodes-chars _ c.as_str.utf8) ∙ ap encode_utf8_all c.as_str.ensures.chars in
    let e : c.as_bytes.result.now ≡ encode_utf8_all c.args.text.now = c.as_bytes.ensures.value ∙ s in
    rw (e, characters_text_of c.args.text.now) at c.print_quoted.ensures.ok

pub returns-clause-err : goal.returns-clause-err
returns-clause-err c =
    let s = sym (encodes-chars _ c.as_str.utf8) ∙ ap encode_utf8_all c.as_str.ensures.chars in
    let e : c.as_bytes.result.now ≡ encode_utf8_all c.args.text.now = c.as_bytes.ensures.value ∙ s in
    rw (e, characters_text_of c.args.text.now) at c.print_quoted.ensures.err
