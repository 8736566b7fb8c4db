use Rattle.std.proofs.Common.{◌≡◌, ◌∙◌}
use Rattle.std.specs.Str.{encode_utf8_all}
use Rattle.item_printer.proofs.StringTexts.{characters_text_of}
use Rattle.item_printer.proofs.string.print_string.Goals as goal

pub returns-clause-ok : goal.returns-clause-ok
returns-clause-ok c =
    let e : c.as_bytes.result.now ≡ encode_utf8_all c.args.text.now = c.as_bytes.ensures.value ∙ c.as_str.ensures.bytes in
    rw (e, characters_text_of c.args.text.now) at c.print_quoted.ensures.ok

pub returns-clause-err : goal.returns-clause-err
returns-clause-err c =
    let e : c.as_bytes.result.now ≡ encode_utf8_all c.args.text.now = c.as_bytes.ensures.value ∙ c.as_str.ensures.bytes in
    rw (e, characters_text_of c.args.text.now) at c.print_quoted.ensures.err
