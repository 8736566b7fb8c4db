use Rattle.std.proofs.Common.{subst, IfOk, IfErr}
use Rattle.query_lexer.specs.Lexes.{Tokens, IsFault}
use Rattle.query_lexer.proofs.PathLemmas.{only_tokens, only_refused}
use Rattle.query_lexer.proofs.lexer.tokens.Goals as goal

pub returns-clause-only : goal.returns-clause-only
returns-clause-only c =
    let found = subst (λ t. IfOk c.tokens_in.result (λ v. Tokens t v.items)) c.as_bytes-bytes.ensures.value c.tokens_in.ensures.found in
    let refused = subst (λ t. IfErr c.tokens_in.result (λ e. IsFault t e)) c.as_bytes-bytes.ensures.value c.tokens_in.ensures.refused in
    only_tokens (λ v. v.items) c.args.text.now c.tokens_in.result found refused

pub returns-clause-only_refusal : goal.returns-clause-only_refusal
returns-clause-only_refusal c =
    let found = subst (λ t. IfOk c.tokens_in.result (λ v. Tokens t v.items)) c.as_bytes-bytes.ensures.value c.tokens_in.ensures.found in
    let refused = subst (λ t. IfErr c.tokens_in.result (λ e. IsFault t e)) c.as_bytes-bytes.ensures.value c.tokens_in.ensures.refused in
    only_refused (λ v. v.items) c.args.text.now c.tokens_in.result found refused
