use Rattle.std.proofs.Common.{sym, subst}
use Rattle.query_lexer.specs.Lexes.{Tokens}
use Rattle.query_lexer.proofs.PlaceLemmas.{all_tokens}
use Rattle.query_tests.proofs.later_texts.shown.Goals as goal

pub parse_at-requires : goal.parse_at-requires
parse_at-requires c = all_tokens c.args.text.now c.deref.result.now (subst (Tokens c.args.text.now) (sym c.deref.ensures.value) c.in-Ok.ensures.found)
