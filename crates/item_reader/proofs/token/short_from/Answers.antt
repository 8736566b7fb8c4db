use Rattle.std.specs.Prelude.{pos}
use Rattle.std.proofs.Common.{◌∙◌, ap, sym, subst}
use Rattle.json_text.specs.inside.Scan.{numeral_at}
use Rattle.json_text.specs.inside.Machine.{numeral_token, token_from}
use Rattle.item_reader.specs.Tokens.{IsInteger}
use Rattle.item_reader.proofs.TokenSteps.{from_digit}
use Rattle.item_reader.proofs.token.short_from.Goals as goal

pub returns-in-Some : goal.returns-in-Some
returns-in-Some c =
    let digit = c.if-not-is_ascii_digit.ensures.cases in
    let e = from_digit c.args.b c.args.rest.now digit.0 digit.1 in
    let h = subst (IsInteger (pos c.in-Some.n) c.in-Some.behind.now) (ap (λ l. numeral_token (numeral_at l)) c.requires ∙ sym e) c.in-Some.ensures in
    subst (λ z. IsInteger z c.in-Some.behind.now (token_from c.args.b c.args.rest.now)) (sym c.whole.ensures) h
