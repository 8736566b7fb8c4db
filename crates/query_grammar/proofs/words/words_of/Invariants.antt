use Rattle.std.proofs.Common.{take}
use Rattle.query_grammar.specs.Words.{AreWordsAt}
use Rattle.query_grammar.proofs.words.words_of.Given as goal

abbrev pub invariant-loop-token : goal.invariant-loop-token
invariant-loop-token l = AreWordsAt l.start l.text (take l.token-index l.tokens) l.words.items
