use Rattle.query_lexer.proofs.PlaceLemmas.{token_indexed}
use Rattle.query_grammar.proofs.WordLemmas.{words_more}
use Rattle.query_grammar.proofs.words.words_of.Goals as goal

pub word_of-requires : goal.word_of-requires
word_of-requires c = token_indexed c.args.text.now c.args.tokens.now c.loop-token.token-index _ c.requires c.loop-token-test.true

pub loop-token-preserved : goal.loop-token-preserved
loop-token-preserved c = words_more _ _ _ _ _ _ _ c.in_ok-word.word c.loop-token-test.true c.in_ok-push.ensures.items c.loop-token.invariant c.in_ok-word.ensures
