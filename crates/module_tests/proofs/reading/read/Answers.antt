use Rattle.std.proofs.Common.{sym, subst}
use Rattle.query_lexer.specs.Lexes.{Tokens}
use Rattle.query_lexer.proofs.PlaceLemmas.{all_tokens}
use Rattle.module_tests.proofs.reading.read.Goals as goal

pub imports-requires : goal.imports-requires
imports-requires c = all_tokens c.args.text.now c.deref.result.now (subst (Tokens c.args.text.now) (sym c.deref.ensures.value) c.in-Ok.ensures.found)
