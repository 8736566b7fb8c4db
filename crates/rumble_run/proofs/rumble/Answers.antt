use Rattle.std.proofs.Common.{[]}
use Rattle.rumble_run.specs.Commands.{command_of}
use Rattle.rumble_run.specs.Ends.{err_by}
use Rattle.rumble_run.specs.inside.Seen.{answer_of}
use Rattle.rumble_run.proofs.Endings.{ends_status, ends_complete, ends_opens, ends_alone, ends_opened, ends_missed, search_opened, search_missed}
use Rattle.rumble_run.proofs.Answered.{told, untold}
use Rattle.rumble_run.proofs.Settled.{stop_status, stop_complete, stop_text, stop_output}
use Rattle.rumble_run.proofs.rumble.Goals as goal

pub returns-in-Ok-clause-status : goal.returns-in-Ok-clause-status
returns-in-Ok-clause-status g c = told (g.I.Inputs.world c.args.inputs.now) c.args.words.now (answer_of c.in-Ok.ending) _ c.in-Ok.ensures.value (ends_status (answer_of c.in-Ok.ending) _ _ _ c.finish.ensures.status)

pub returns-in-Ok-clause-output : goal.returns-in-Ok-clause-output
returns-in-Ok-clause-output g c = told (g.I.Inputs.world c.args.inputs.now) c.args.words.now (answer_of c.in-Ok.ending) _ c.in-Ok.ensures.value c.finish.ensures.output

pub returns-in-Ok-clause-text : goal.returns-in-Ok-clause-text
returns-in-Ok-clause-text g c =
    let wrote = rw (c.in-Ok.ensures.untold.0, c.in-Ok.ensures.untold.1) at c.finish.ensures.text in
    told (g.I.Inputs.world c.args.inputs.now) c.args.words.now (answer_of c.in-Ok.ending) _ c.in-Ok.ensures.value wrote

pub returns-in-Ok-clause-completes : goal.returns-in-Ok-clause-completes
returns-in-Ok-clause-completes g c = λ read written. told (g.I.Inputs.world c.args.inputs.now) c.args.words.now (answer_of c.in-Ok.ending) _ c.in-Ok.ensures.value (ends_complete (answer_of c.in-Ok.ending) _ _ _ written c.finish.ensures.status)

pub returns-in-Ok-clause-opened : goal.returns-in-Ok-clause-opened
returns-in-Ok-clause-opened g c =
    ends_opened (g.I.Inputs.world c.args.inputs.now) (command_of c.args.words.now) _ _ _ _ _ _ c.finish.ensures.status c.in-Ok.ensures.searched

pub returns-in-Ok-clause-missed : goal.returns-in-Ok-clause-missed
returns-in-Ok-clause-missed g c =
    ends_missed (g.I.Inputs.world c.args.inputs.now) (command_of c.args.words.now) _ _ _ _ _ _ c.finish.ensures.status c.in-Ok.ensures.searched

pub returns-in-Ok-clause-opens : goal.returns-in-Ok-clause-opens
returns-in-Ok-clause-opens g c = ends_opens (command_of c.args.words.now) _ _ _ _ _ _ c.finish.ensures.status c.in-Ok.ensures.opens

pub returns-in-Ok-clause-alone : goal.returns-in-Ok-clause-alone
returns-in-Ok-clause-alone g c = ends_alone (command_of c.args.words.now) _ _ _ _ _ _ c.finish.ensures.status c.in-Ok.ensures.alone

pub returns-in-Err-clause-status : goal.returns-in-Err-clause-status
returns-in-Err-clause-status g c = untold (g.I.Inputs.world c.args.inputs.now) c.args.words.now _ (λ a. stop_status a c.in-Err.status c.in-Err.ensures.stop)

pub returns-in-Err-clause-output : goal.returns-in-Err-clause-output
returns-in-Err-clause-output g c = untold (g.I.Inputs.world c.args.inputs.now) c.args.words.now _ (λ a. stop_output a.out c.in-Err.status _ c.in-Err.ensures.stop)

pub returns-in-Err-clause-text : goal.returns-in-Err-clause-text
returns-in-Err-clause-text g c = untold (g.I.Inputs.world c.args.inputs.now) c.args.words.now _ (λ a. c.in-Err.ensures.told a.err)

pub returns-in-Err-clause-completes : goal.returns-in-Err-clause-completes
returns-in-Err-clause-completes g c = λ read written. untold (g.I.Inputs.world c.args.inputs.now) c.args.words.now _ (λ a. stop_complete a c.in-Err.status _ _ c.in-Err.ensures.stop c.in-Err.ensures.cause read)

pub returns-in-Err-clause-untold_output : goal.returns-in-Err-clause-untold_output
returns-in-Err-clause-untold_output g c = ([], stop_output [] c.in-Err.status _ c.in-Err.ensures.stop)

pub returns-in-Err-clause-untold_text : goal.returns-in-Err-clause-untold_text
returns-in-Err-clause-untold_text g c = (err_by [] c.in-Err.status, stop_text (command_of c.args.words.now) [] c.in-Err.status c.in-Err.ensures.stop, c.in-Err.ensures.told [])

pub returns-in-Err-clause-opened : goal.returns-in-Err-clause-opened
returns-in-Err-clause-opened g c = search_opened (g.I.Inputs.world c.args.inputs.now) (command_of c.args.words.now) _ _ _ c.in-Err.ensures.searched

pub returns-in-Err-clause-missed : goal.returns-in-Err-clause-missed
returns-in-Err-clause-missed g c = search_missed (g.I.Inputs.world c.args.inputs.now) (command_of c.args.words.now) _ _ _ c.in-Err.ensures.searched
