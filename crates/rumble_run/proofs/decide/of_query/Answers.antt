use Rattle.std.proofs.Common.{Ok, Err}
use Rattle.rumble_run.specs.Commands.{stats_of}
use Rattle.rumble_run.specs.Front.{IsFront}
use Rattle.rumble_run.specs.inside.Seen.{executable_of, decided_status}
use Rattle.rumble_run.proofs.Answered.{of_front_searched, refused_searched}
use Rattle.rumble_run.proofs.Endings.{of_refusal, query_refused, query_ended}
use Rattle.rumble_run.proofs.decide.of_query.Goals as goal

pub returns-in-Ok-clause-value : goal.returns-in-Ok-clause-value
returns-in-Ok-clause-value g c =
    query_ended _ c.args.action c.args.query.now c.without_mark-text.result.now (executable_of c.in-Ok.compiled) (g.I.Inputs.world c.args.inputs.now)
    c.without_mark-text.ensures.rest c.in-Ok.ensures c.of_executable-ending.ensures.value

pub returns-in_ok-tells_refusal-in-Err-Refused-clause-value : goal.returns-in_ok-tells_refusal-in-Err-Refused-clause-value
returns-in_ok-tells_refusal-in-Err-Refused-clause-value g c =
    let front : IsFront c.args.query.now (Err c.in-Err-Refused.fault) = rw c.in-Err-Refused.field-0-is at c.in-Err-Refused.ensures in
    query_refused _ c.args.action c.args.query.now c.without_mark-text.result.now c.in-Err-Refused.fault (g.I.Inputs.world c.args.inputs.now)
    c.without_mark-text.ensures.rest front (rw c.in-Err-Refused.field-0-is at c.in_ok-tells_refusal-in-Err-Refused.ensures)

pub returns-in_ok-tells_refusal-in-Err-Refused-clause-shape : goal.returns-in_ok-tells_refusal-in-Err-Refused-clause-shape
returns-in_ok-tells_refusal-in-Err-Refused-clause-shape g c =
    of_refusal (stats_of c.args.action) _ c.without_mark-text.result.now c.in-Err-Refused.fault (rw c.in-Err-Refused.field-0-is at c.in_ok-tells_refusal-in-Err-Refused.ensures)

pub returns-in-Ok-clause-searched : goal.returns-in-Ok-clause-searched
returns-in-Ok-clause-searched g c =
    of_front_searched (decided_status c.of_executable-ending.result) (g.I.Inputs.world c.args.inputs.now) c.args.action c.args.query.now (Ok (executable_of c.in-Ok.compiled)) (g.I.Inputs.counts c.args.inputs.now)
    (g.I.Inputs.counts c.of_executable-ending.new.inputs) c.in-Ok.ensures c.of_executable-ending.ensures.searched

pub returns-in_ok-tells_refusal-in-Err-Refused-clause-searched : goal.returns-in_ok-tells_refusal-in-Err-Refused-clause-searched
returns-in_ok-tells_refusal-in-Err-Refused-clause-searched g c =
    let front : IsFront c.args.query.now (Err c.in-Err-Refused.fault) = rw c.in-Err-Refused.field-0-is at c.in-Err-Refused.ensures in
    refused_searched _ (g.I.Inputs.world c.args.inputs.now) c.args.action c.args.query.now c.in-Err-Refused.fault (g.I.Inputs.counts c.args.inputs.now) front
