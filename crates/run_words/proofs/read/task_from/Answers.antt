use Rattle.std.proofs.Common.{◌∙◌, sym, ap}
use Rattle.clap.specs.Words.{first_value, found_of}
use Rattle.run_words.specs.Table.{id_of}
use Rattle.run_words.specs.Asked.{task_from}
use Rattle.run_words.proofs.read.task_from.Goals as goal

pub returns-in-Trial : goal.returns-in-Trial
returns-in-Trial c = λ stats e. c.trial_of.ensures stats ∙ ap (λ v. task_from v (λ n. first_value (found_of c.args.matches.now) (id_of n)) stats) (sym c.in-Trial.is)
