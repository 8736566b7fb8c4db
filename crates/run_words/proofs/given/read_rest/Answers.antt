use Rattle.std.proofs.Common.{◌∙◌, sym, rules}
use Rattle.std.specs.Str.{encode_utf8_all}
use Rattle.run_words.proofs.Marking.{turn, stops}
use Rattle.run_words.proofs.given.read_rest.Goals as goal

pub loop-word-preserved : goal.loop-word-preserved
loop-word-preserved c =
    turn c.args.verb encode_utf8_all c.args.words.now c.loop-word.word-index c.word-item.result c.loop-word.phase c.loop-word.seen c.in-Some.next c.loop-word-test.true c.word-item.is (search rules) ∙ c.loop-word.invariant

pub returns-in_default : goal.returns-in_default
returns-in_default c =
    stops c.args.verb encode_utf8_all c.args.words.now c.loop-word.word-index c.word-item.result c.loop-word.phase c.loop-word.seen c.loop-word-test.true c.word-item.is (sym c.in_default.is ∙ c.met_word.ensures) ∙ c.loop-word.invariant
