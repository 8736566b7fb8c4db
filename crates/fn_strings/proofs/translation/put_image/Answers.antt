use Rattle.std.proofs.Common.{ap, ◌∙◌, rules}
use Rattle.std.specs.Char.{IsScalar}
use Rattle.std.specs.Str.{chars}
use Rattle.std.specs.String.{string_bytes}
use Rattle.std.proofs.lemmas.Str.{IsUtf8-string_bytes}
use Rattle.fn_strings.proofs.Tables.{char_pushed}
use Rattle.fn_strings.proofs.translation.put_image.Goals as goal

pub returns-in_ok-push : goal.returns-in_ok-push
returns-in_ok-push c =
    let scalar : IsScalar c.in-Some.c = search rules in
    rw c.in-Some.is
    (ap chars c.in_ok-push.ensures.bytes ∙ char_pushed (string_bytes c.args.line.now) c.in-Some.c (IsUtf8-string_bytes c.args.line.now) scalar)
