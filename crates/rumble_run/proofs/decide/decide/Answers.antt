use Rattle.std.proofs.Common.{◌∙◌, Some, None, sym, ap}
use Rattle.rumble_run.specs.inside.Seen.{decided_status}
use Rattle.rumble_run.proofs.Answered.{no_file_searched, trial_searched, search_of_query}
use Rattle.rumble_run.proofs.Endings.{answer_usage, answer_file, answer_trial, file_opens, file_alone}
use Rattle.rumble_run.proofs.decide.decide.Goals as goal

pub returns-in_ok-tells_usage-in-None-clause-value : goal.returns-in_ok-tells_usage-in-None-clause-value
returns-in_ok-tells_usage-in-None-clause-value g c = answer_usage _ _ _ (sym c.in_ok-command_of.ensures.is ∙ c.in-None.is) c.in_ok-tells_usage-in-None.ensures

pub returns-in_ok-tells_usage-in-None-clause-searched : goal.returns-in_ok-tells_usage-in-None-clause-searched
returns-in_ok-tells_usage-in-None-clause-searched g c =
    no_file_searched (g.I.Inputs.world c.args.inputs.now) None _ _ (g.I.Inputs.counts c.args.inputs.now) (sym c.in_ok-command_of.ensures.is ∙ c.in-None.is) tt

pub returns-in-Some-Query-clause-value : goal.returns-in-Some-Query-clause-value
returns-in-Some-Query-clause-value g c =
    answer_file c.of_file.result c.args.words.now c.in-Some-Query.action c.in-Some-Query.name (g.I.Inputs.world c.args.inputs.now)
    (sym c.in_ok-command_of.ensures.is ∙ c.in-Some-Query.is ∙ ap (λ x. Some x) c.in-Some-Query.field-0-is) c.of_file.ensures.value

pub returns-in-Some-Query-clause-searched : goal.returns-in-Some-Query-clause-searched
returns-in-Some-Query-clause-searched g c =
    search_of_query (decided_status c.of_file.result) (g.I.Inputs.world c.args.inputs.now) _ c.in-Some-Query.action c.in-Some-Query.name (g.I.Inputs.counts c.args.inputs.now)
    (g.I.Inputs.counts c.of_file.new.inputs) (sym c.in_ok-command_of.ensures.is ∙ c.in-Some-Query.is ∙ ap (λ x. Some x) c.in-Some-Query.field-0-is) c.of_file.ensures.searched

pub returns-in-Some-Query-clause-opens : goal.returns-in-Some-Query-clause-opens
returns-in-Some-Query-clause-opens g c =
    file_opens c.of_file.result _ c.in-Some-Query.action c.in-Some-Query.name (g.I.Inputs.counts c.args.inputs.now) (g.I.Inputs.counts c.of_file.new.inputs)
    (sym c.in_ok-command_of.ensures.is ∙ c.in-Some-Query.is ∙ ap (λ x. Some x) c.in-Some-Query.field-0-is) c.of_file.ensures.opens

pub returns-in-Some-Query-clause-alone : goal.returns-in-Some-Query-clause-alone
returns-in-Some-Query-clause-alone g c =
    file_alone c.of_file.result _ c.in-Some-Query.action c.in-Some-Query.name (g.I.Inputs.counts c.args.inputs.now) (g.I.Inputs.counts c.of_file.new.inputs)
    (sym c.in_ok-command_of.ensures.is ∙ c.in-Some-Query.is ∙ ap (λ x. Some x) c.in-Some-Query.field-0-is) c.of_file.ensures.alone

pub returns-in-Some-Trial-clause-value : goal.returns-in-Some-Trial-clause-value
returns-in-Some-Trial-clause-value g c =
    answer_trial c.of_trial.result c.args.words.now c.in-Some-Trial.number c.in-Some-Trial.lines c.in-Some-Trial.running (g.I.Inputs.world c.args.inputs.now)
    (sym c.in_ok-command_of.ensures.is ∙ c.in-Some-Trial.is ∙ ap (λ x. Some x) c.in-Some-Trial.field-0-is) c.of_trial.ensures.value

pub returns-in-Some-Trial-clause-searched : goal.returns-in-Some-Trial-clause-searched
returns-in-Some-Trial-clause-searched g c =
    trial_searched (decided_status c.of_trial.result) (g.I.Inputs.world c.args.inputs.now) _ c.in-Some-Trial.number c.in-Some-Trial.lines c.in-Some-Trial.running (g.I.Inputs.counts c.args.inputs.now)
    (sym c.in_ok-command_of.ensures.is ∙ c.in-Some-Trial.is ∙ ap (λ x. Some x) c.in-Some-Trial.field-0-is)
