use Rattle.rumble_run.proofs.decide.of_trial.Goals as goal

pub returns-clause-value : goal.returns-clause-value
returns-clause-value g c = rw (c.in_ok-inputs.ensures, c.trial_query.ensures) at c.of_query.ensures.value
