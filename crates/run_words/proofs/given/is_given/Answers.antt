use Rattle.std.proofs.Common.{◌∙◌, map}
use Rattle.std.specs.Str.{encode_utf8_all}
use Rattle.run_words.proofs.Marking.{whole_law, none_law}
use Rattle.run_words.proofs.given.is_given.Goals as goal

pub returns-in-Some : goal.returns-in-Some
returns-in-Some c = c.is_whole.ensures ∙ whole_law c.args.verb (map encode_utf8_all c.args.words.now) c.in-Some.phase c.in-Some.seen c.in-Some.ensures

pub returns-in-None : goal.returns-in-None
returns-in-None c = none_law c.args.verb (map encode_utf8_all c.args.words.now) c.in-None.ensures
