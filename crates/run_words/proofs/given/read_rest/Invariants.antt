use Rattle.std.proofs.Common.{◌≡◌, map, drop, []}
use Rattle.std.specs.Str.{encode_utf8_all}
use Rattle.run_words.specs.declared.given.Phase.TheVariants.{Free}
use Rattle.run_words.specs.inside.Marks.{reads_marks, marks_of}
use Rattle.run_words.proofs.given.read_rest.Given as goal

abbrev pub invariant-loop-word : goal.invariant-loop-word
invariant-loop-word l = reads_marks l.verb (l.phase, l.seen) (map encode_utf8_all (drop l.word-index l.words)) ≡ reads_marks l.verb (Free, marks_of []) (map encode_utf8_all l.words)
