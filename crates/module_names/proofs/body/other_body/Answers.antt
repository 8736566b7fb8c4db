use Rattle.std.proofs.Common.{List, sym, subst}
use Rattle.query_lexer.specs.Lexes.{AreTokens}
use Rattle.query_lexer.specs.declared.token.Token.{Token}
use Rattle.query_lexer.proofs.PlaceLemmas.{tokens_drop}
use Rattle.module_names.proofs.body.other_body.Goals as goal

pub unless_unit-requires : goal.unless_unit-requires
unless_unit-requires c =
    subst (λ (ts : List Token). AreTokens c.args.text.now ts) (sym c.body_tokens.ensures)
    (tokens_drop c.args.text.now _ c.args.tokens.now c.requires)
