use Rattle.module_names.proofs.LoadingRules as rules
use Rattle.module_names.proofs.laws.rules_say_loading.Goals as goal

pub returns : goal.returns
returns c = record { said = rules.said; only = rules.only }
