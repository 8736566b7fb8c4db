use Rattle.std.proofs.Common.{List, sym, subst}
use Rattle.std.proofs.lemmas.List.{take_rest}
use Rattle.query_lexer.specs.Lexes.{Tokens, AreTokens}
use Rattle.query_lexer.specs.declared.token.Token.{Token}
use Rattle.query_lexer.proofs.PlaceLemmas.{all_tokens, tokens_drop}
use Rattle.query_files.proofs.merging.module_at.Goals as goal

pub imports-requires : goal.imports-requires
imports-requires g c = all_tokens c.args.text.now c.deref.result.now (subst (Tokens c.args.text.now) (sym c.deref.ensures.value) c.in-Ok.ensures.found)

pub parse_at-requires : goal.parse_at-requires
parse_at-requires g c =
    subst (λ (ts : List Token). AreTokens c.args.text.now ts) (sym (take_rest c.deref-2.result.now c.in-Ok-imports.count))
    (tokens_drop c.args.text.now c.in-Ok-imports.count c.deref-2.result.now
    (all_tokens c.args.text.now c.deref-2.result.now (subst (Tokens c.args.text.now) (sym c.deref-2.ensures.value) c.in-Ok.ensures.found)))
