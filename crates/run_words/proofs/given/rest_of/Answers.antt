use Rattle.run_words.proofs.Parsing.{after_of}
use Rattle.run_words.proofs.given.rest_of.Goals as goal

pub returns : goal.returns
returns c = after_of c.args.front.now c.args.word.now c.strip_prefix.result c.strip_prefix.ensures.cases
