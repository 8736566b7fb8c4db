use Rattle.std.proofs.Common.{Ok, sym, ◌∙◌}
use Rattle.rumble_run.specs.inside.Seen.{answer_of, decided_status, status_of_stop}
use Rattle.rumble_run.proofs.Parting.{usage_decided, run_decided, opens_decided, opens_usage, search_no_task, search_decided}
use Rattle.rumble_run.proofs.parts.decide_parts.Goals as goal

pub returns-in-None-clause-value : goal.returns-in-None-clause-value
returns-in-None-clause-value g c =
    usage_decided (g.I.Inputs.world c.args.inputs.now) c.args.words.now
    (answer_of c.in_ok-ending-in-None.ending) (sym c.in_ok-task_asked.ensures.task ∙ c.in-None.is)
    c.in_ok-ending-in-None.ensures

pub returns-in-None-clause-opens : goal.returns-in-None-clause-opens
returns-in-None-clause-opens g c =
    opens_usage c.args.words.now (answer_of c.in_ok-ending-in-None.ending) (g.I.Inputs.counts c.args.inputs.now)
    (sym c.in_ok-task_asked.ensures.task ∙ c.in-None.is) c.in_ok-ending-in-None.ensures

pub returns-in-None-clause-searched : goal.returns-in-None-clause-searched
returns-in-None-clause-searched g c =
    search_no_task (g.I.Inputs.world c.args.inputs.now) c.args.words.now (g.I.Inputs.counts c.args.inputs.now)
    (sym c.in_ok-task_asked.ensures.task ∙ c.in-None.is) _

pub returns-in-Ok-clause-value : goal.returns-in-Ok-clause-value
returns-in-Ok-clause-value g c =
    run_decided (g.I.Inputs.world c.args.inputs.now) c.args.words.now (answer_of c.in-Ok.ending)
    c.in-Some.task (sym c.in_ok-task_asked.ensures.task ∙ c.in-Some.is) c.in-Ok.ensures.value

pub returns-in-Ok-clause-opens : goal.returns-in-Ok-clause-opens
returns-in-Ok-clause-opens g c =
    opens_decided (Ok c.in-Ok.ending) c.args.words.now c.in-Some.task (g.I.Inputs.counts c.args.inputs.now)
    (g.I.Inputs.counts c.of_file.new.inputs) (sym c.in_ok-task_asked.ensures.task ∙ c.in-Some.is)
    c.in-Ok.ensures.opens

pub returns-in-Ok-clause-searched : goal.returns-in-Ok-clause-searched
returns-in-Ok-clause-searched g c =
    search_decided (decided_status (Ok c.in-Ok.ending)) (g.I.Inputs.world c.args.inputs.now) c.args.words.now c.in-Some.task
    (g.I.Inputs.counts c.args.inputs.now) (g.I.Inputs.counts c.of_file.new.inputs)
    (sym c.in_ok-task_asked.ensures.task ∙ c.in-Some.is) c.in-Ok.ensures.searched

pub returns-clause-searched : goal.returns-clause-searched
returns-clause-searched g c =
    search_decided (status_of_stop c.in-Err.stop) (g.I.Inputs.world c.args.inputs.now) c.args.words.now c.in-Some.task
    (g.I.Inputs.counts c.args.inputs.now) (g.I.Inputs.counts c.of_file.new.inputs)
    (sym c.in_ok-task_asked.ensures.task ∙ c.in-Some.is) c.in-Err.ensures.searched
