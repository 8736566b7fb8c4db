use Rattle.run_words.proofs.Spelling.{given_spelled, spelled_given}
use Rattle.run_words.proofs.laws.words_are_spelled.Goals as goal

pub returns : goal.returns
returns c = λ verb words uses. record { read = given_spelled verb words uses; all = spelled_given verb words uses }
