use Rattle.std.proofs.Common.{[], sym}
use Rattle.rumble_run.specs.Commands.{command_of}
use Rattle.rumble_run.specs.Ends.{Wrote, OpensBy, ChecksAlone, OpenedBy, MissedBy, err_by}
use Rattle.rumble_run.specs.Opens.{OfSearch}
use Rattle.rumble_run.specs.inside.Seen.{answer_of}
use Rattle.rumble_run.proofs.Answered.{told, untold}
use Rattle.rumble_run.proofs.Endings.{search_opened, search_missed}
use Rattle.rumble_run.proofs.Settled.{settled_status, settled_complete, settled_by, settled_output, settled_text, stop_status, stop_complete, stop_text}
use Rattle.rumble_run.proofs.preparing.prepare.Goals as goal

pub returns-in-Ok-clause-status : goal.returns-in-Ok-clause-status
returns-in-Ok-clause-status g c =
    let a = answer_of c.in-Ok.ending in
    told (g.I.Inputs.world c.args.inputs.now) c.args.words.now a _ c.in-Ok.ensures.value
    (settled_status _ a c.settle.result c.in-Ok.ensures.shape.silent c.settle.ensures.done
    c.settle.ensures.other)

pub returns-in-Ok-clause-output : goal.returns-in-Ok-clause-output
returns-in-Ok-clause-output g c =
    let a = answer_of c.in-Ok.ending in
    told (g.I.Inputs.world c.args.inputs.now) c.args.words.now a _ c.in-Ok.ensures.value
    (settled_output _ a c.settle.result c.settle.ensures.done)

pub returns-in-Ok-clause-text : goal.returns-in-Ok-clause-text
returns-in-Ok-clause-text g c =
    let a = answer_of c.in-Ok.ending in
    told (g.I.Inputs.world c.args.inputs.now) c.args.words.now a _ c.in-Ok.ensures.value
    (rw (sym c.in-Ok.ensures.untold.0, sym c.in-Ok.ensures.untold.1) (settled_text (λ text. Wrote text (g.E.Sink.wrote c.prepared.new.err) (g.E.Sink.wrote c.settle.new.err)
    (g.E.Sink.faults c.prepared.new.err) (g.E.Sink.faults c.settle.new.err)) a c.settle.result
    c.in-Ok.ensures.shape.silent c.settle.ensures.other c.settle.ensures.told))

pub returns-in-Ok-clause-completes : goal.returns-in-Ok-clause-completes
returns-in-Ok-clause-completes g c = λ calm.
    let a = answer_of c.in-Ok.ending in
    told (g.I.Inputs.world c.args.inputs.now) c.args.words.now a _ c.in-Ok.ensures.value
    (settled_complete _ a c.settle.result c.settle.ensures.done c.settle.ensures.other)

pub returns-in-Ok-clause-opened : goal.returns-in-Ok-clause-opened
returns-in-Ok-clause-opened g c =
    settled_by (λ s. OfSearch (g.I.Inputs.world c.args.inputs.now) (command_of c.args.words.now) (λ search.
    OpenedBy search s (g.I.Inputs.counts c.args.inputs.now) (g.I.Inputs.counts c.prepared.new.inputs))) _ c.in-Ok.ending.status c.settle.result c.settle.ensures.done c.settle.ensures.other
    (search_opened (g.I.Inputs.world c.args.inputs.now) (command_of c.args.words.now) _ _ _ c.in-Ok.ensures.searched)

pub returns-in-Ok-clause-missed : goal.returns-in-Ok-clause-missed
returns-in-Ok-clause-missed g c =
    settled_by (λ s. OfSearch (g.I.Inputs.world c.args.inputs.now) (command_of c.args.words.now) (λ search.
    MissedBy search s (g.I.Inputs.counts c.args.inputs.now) (g.I.Inputs.counts c.prepared.new.inputs))) _ c.in-Ok.ending.status c.settle.result c.settle.ensures.done c.settle.ensures.other
    (search_missed (g.I.Inputs.world c.args.inputs.now) (command_of c.args.words.now) _ _ _ c.in-Ok.ensures.searched)

pub returns-in-Ok-clause-opens : goal.returns-in-Ok-clause-opens
returns-in-Ok-clause-opens g c =
    settled_by (λ s. OpensBy (command_of c.args.words.now) s (g.I.Inputs.counts c.args.inputs.now) (g.I.Inputs.counts c.prepared.new.inputs)) _ c.in-Ok.ending.status c.settle.result
    c.settle.ensures.done c.settle.ensures.other c.in-Ok.ensures.opens

pub returns-in-Ok-clause-alone : goal.returns-in-Ok-clause-alone
returns-in-Ok-clause-alone g c =
    settled_by (λ s. ChecksAlone (command_of c.args.words.now) s (g.I.Inputs.counts c.args.inputs.now) (g.I.Inputs.counts c.prepared.new.inputs)) _ c.in-Ok.ending.status c.settle.result
    c.settle.ensures.done c.settle.ensures.other c.in-Ok.ensures.alone

pub returns-in-Err-clause-status : goal.returns-in-Err-clause-status
returns-in-Err-clause-status g c = untold (g.I.Inputs.world c.args.inputs.now) c.args.words.now _ (λ a. stop_status a c.in-Err.status c.in-Err.ensures.stop)

pub returns-in-Err-clause-text : goal.returns-in-Err-clause-text
returns-in-Err-clause-text g c = untold (g.I.Inputs.world c.args.inputs.now) c.args.words.now _ (λ a. c.in-Err.ensures.told a.err)

pub returns-in-Err-clause-completes : goal.returns-in-Err-clause-completes
returns-in-Err-clause-completes g c = λ calm. untold (g.I.Inputs.world c.args.inputs.now) c.args.words.now _ (λ a. stop_complete a c.in-Err.status _ _ c.in-Err.ensures.stop c.in-Err.ensures.cause calm)

pub returns-in-Err-clause-untold_text : goal.returns-in-Err-clause-untold_text
returns-in-Err-clause-untold_text g c = (err_by [] c.in-Err.status, stop_text (command_of c.args.words.now) [] c.in-Err.status c.in-Err.ensures.stop, c.in-Err.ensures.told [])

pub returns-in-Err-clause-opened : goal.returns-in-Err-clause-opened
returns-in-Err-clause-opened g c = search_opened (g.I.Inputs.world c.args.inputs.now) (command_of c.args.words.now) _ _ _ c.in-Err.ensures.searched

pub returns-in-Err-clause-missed : goal.returns-in-Err-clause-missed
returns-in-Err-clause-missed g c = search_missed (g.I.Inputs.world c.args.inputs.now) (command_of c.args.words.now) _ _ _ c.in-Err.ensures.searched
