use Rattle.std.proofs.Common.{sym, subst}
use Rattle.std.specs.Str.{IsUtf8}
use Rattle.std.proofs.lemmas.Str.{IsUtf8-append}
use Rattle.item_reader.proofs.EscapeTexts.{spelled_is_text}
use Rattle.item_reader.proofs.string.push_escape.Goals as goal

pub returns-clause-text : goal.returns-clause-text
returns-clause-text c = λ old.
    let spelled = spelled_is_text c.args.line.now c.in-Some.spelled c.in-Some.rest.now c.in-Some.ensures.value c.in-Some.ensures.some.sound in
    subst IsUtf8 (sym c.in_ok-push_spelled.ensures.ok) (IsUtf8-append c.args.bytes.now.items _ old spelled)
