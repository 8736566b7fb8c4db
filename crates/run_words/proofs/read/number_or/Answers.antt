use Rattle.std.proofs.Common.{subst, option_map}
use Rattle.run_words.specs.inside.Numbers.{IsNumberText}
use Rattle.run_words.proofs.Tasks.{parses}
use Rattle.run_words.proofs.read.number_or.Goals as goal

pub unreachable-requires : goal.unreachable-requires
unreachable-requires c = parses c.in-Some.text.now (subst (λ o. IsNumberText (option_map (λ s. s.now) o)) c.in-Some.is c.requires) c.in-Err.ensures.value.0
