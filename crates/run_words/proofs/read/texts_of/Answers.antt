use Rattle.std.proofs.Common.{◌∙◌, ap, map}
use Rattle.std.specs.Str.{encode_utf8_all}
use Rattle.run_words.proofs.Tasks.{one_more}
use Rattle.run_words.proofs.read.texts_of.Goals as goal

pub loop-word-preserved : goal.loop-word-preserved
loop-word-preserved c =
    ap (map (λ t. t.now)) c.in_ok-push.ensures.items
    ∙ one_more (λ t. t.now) encode_utf8_all c.loop-word.texts.items c.args.words.now c.loop-word.word-index c.as_str.result c.word-item.result c.loop-word-test.true c.word-item.is c.as_str.ensures.bytes c.loop-word.invariant
