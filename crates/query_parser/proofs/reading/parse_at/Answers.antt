use Rattle.std.proofs.Common.{◌+◌, ap, List, length, sym, subst}
use Rattle.query_grammar.specs.declared.word.Word.{Word}
use Rattle.query_grammar.specs.Words.{AreWordsAt}
use Rattle.query_parser.proofs.QueryLemmas.{query_found, query_only, query_refused}
use Rattle.query_parser.proofs.reading.parse_at.Goals as goal

pub returns-clause-found : goal.returns-clause-found
returns-clause-found c = query_found c.args.start c.args.text.now c.args.tokens.now c.deref.result.now (subst (λ (w : List Word). AreWordsAt c.args.start c.args.text.now c.args.tokens.now w) (sym c.deref.ensures.value) c.in-Ok.ensures) c.query_of.result c.query_of.ensures.found

pub returns-clause-only : goal.returns-clause-only
returns-clause-only c = query_only c.args.start c.args.text.now c.args.tokens.now c.deref.result.now (subst (λ (w : List Word). AreWordsAt c.args.start c.args.text.now c.args.tokens.now w) (sym c.deref.ensures.value) c.in-Ok.ensures) c.query_of.result c.query_of.ensures.only

pub returns-clause-refused : goal.returns-clause-refused
returns-clause-refused c = query_refused c.args.start c.args.text.now c.args.tokens.now c.deref.result.now (subst (λ (w : List Word). AreWordsAt c.args.start c.args.text.now c.args.tokens.now w) (sym c.deref.ensures.value) c.in-Ok.ensures) (c.args.start + length c.as_bytes-bytes.result.now) c.query_of.result (ap (λ n. c.args.start + n) c.as_bytes-bytes.ensures.len) c.query_of.ensures.refused
