use Rattle.std.proofs.Common.{sym, subst}
use Rattle.json_text.specs.inside.Scan.{numeral_at}
use Rattle.json_text.specs.inside.Machine.{numeral_token}
use Rattle.item_reader.specs.Tokens.{IsPart}
use Rattle.item_reader.proofs.TokenSteps.{from_number}
use Rattle.item_reader.proofs.token.value_from.Goals as goal

pub returns : goal.returns
returns c =
    let e = from_number c.args.b c.args.rest.now c.requires.value c.requires.no_quote c.if-b-eq110.false c.if-b-eq116.false c.if-b-eq102.false in
    let h = subst (λ l. IsPart c.number_token.result.0 c.number_token.result.1.now (numeral_token (numeral_at l))) c.requires.line c.number_token.ensures in
    subst (IsPart c.number_token.result.0 c.number_token.result.1.now) (sym e) h
