use Rattle.std.proofs.Common.{◌≡◌, map, drop}
use Rattle.std.specs.Str.{encode_utf8_all}
use Rattle.run_words.specs.PartsAsked.{words_given, none_given, InBounds}
use Rattle.run_words.proofs.parts.words_given.Given as goal

-- what is still to be read comes to the same
abbrev pub invariant-loop-at : goal.invariant-loop-at
invariant-loop-at l = record {
  same : words_given l.read l.at (map encode_utf8_all (drop l.at l.words))
      ≡ words_given none_given 0 (map encode_utf8_all l.words);
  within : InBounds l.read;
}
