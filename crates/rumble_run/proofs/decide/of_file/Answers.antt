use Rattle.std.proofs.Common.{sym, ◌∙◌, ap, Some, option_map}
use Rattle.rumble_run.specs.Commands.{stats_of}
use Rattle.rumble_run.specs.inside.Seen.{decided_status}
use Rattle.rumble_run.proofs.Answered.{searched_at_most, searched_missing_query, searched_query}
use Rattle.rumble_run.proofs.Endings.{file_missing, ended_read, read_opens, read_alone, stopped_alone}
use Rattle.rumble_run.proofs.decide.of_file.Goals as goal

pub returns-in-Err-clause-searched : goal.returns-in-Err-clause-searched
returns-in-Err-clause-searched g c =
    let searched = rw c.as_str.ensures.value at c.in-Err.ensures.searched in
    searched_at_most c.in-Err.stop (g.I.Inputs.world c.args.inputs.now) c.args.action c.args.name.now (g.I.Inputs.counts c.args.inputs.now) (g.I.Inputs.counts c.read_named.new.inputs) searched

pub returns-in-Err-clause-alone : goal.returns-in-Err-clause-alone
returns-in-Err-clause-alone g c =
    stopped_alone c.args.action c.args.name.now c.in-Err.stop (g.I.Inputs.counts c.args.inputs.now) (g.I.Inputs.counts c.read_named.new.inputs) c.in-Err.ensures.counts.opened c.in-Err.ensures.counts.missed

pub returns-in_ok-tells_no_query-in-Ok-None-clause-value : goal.returns-in_ok-tells_no_query-in-Ok-None-clause-value
returns-in_ok-tells_no_query-in-Ok-None-clause-value g c =
    let bytes = rw (c.as_str.ensures.value, c.in-Ok-None.field-0-is) at c.in-Ok-None.ensures.bytes in
    file_missing _ c.args.action _ _ bytes c.in_ok-tells_no_query-in-Ok-None.ensures

pub returns-in_ok-tells_no_query-in-Ok-None-clause-searched : goal.returns-in_ok-tells_no_query-in-Ok-None-clause-searched
returns-in_ok-tells_no_query-in-Ok-None-clause-searched g c =
    let bytes = rw (c.as_str.ensures.value, c.in-Ok-None.field-0-is) at c.in-Ok-None.ensures.bytes in
    let searched = rw c.as_str.ensures.value at c.in-Ok-None.ensures.searched in
    searched_missing_query _ (g.I.Inputs.world c.args.inputs.now) c.args.action c.args.name.now (g.I.Inputs.counts c.args.inputs.now) (g.I.Inputs.counts c.read_named.new.inputs) bytes searched

pub returns-in-Ok-Some-clause-value : goal.returns-in-Ok-Some-clause-value
returns-in-Ok-Some-clause-value g c =
    let bytes = rw c.as_str.ensures.value at c.in-Ok-Some.ensures.bytes in
    let is = ap (option_map (λ v. v.items)) c.in-Ok-Some.field-0-is ∙ ap (λ t. Some t) (sym c.deref.ensures.value) in
    ended_read c.of_query.result c.args.action c.args.name.now c.deref.result.now (option_map (λ v. v.items) c.in-Ok-Some.field-0) (g.I.Inputs.world c.args.inputs.now)
    (g.I.Inputs.world c.read_named.new.inputs) bytes is c.in-Ok-Some.ensures.world c.of_query.ensures.value

pub returns-in-Ok-Some-clause-searched : goal.returns-in-Ok-Some-clause-searched
returns-in-Ok-Some-clause-searched g c =
    let is = ap (option_map (λ v. v.items)) c.in-Ok-Some.field-0-is ∙ ap (λ t. Some t) (sym c.deref.ensures.value) in
    let bytes = rw (c.as_str.ensures.value, is) at c.in-Ok-Some.ensures.bytes in
    let searched = rw c.as_str.ensures.value at c.in-Ok-Some.ensures.searched in
    let behind = rw c.in-Ok-Some.ensures.world at c.of_query.ensures.searched in
    searched_query (decided_status c.of_query.result) (g.I.Inputs.world c.args.inputs.now) c.args.action c.args.name.now c.deref.result.now (g.I.Inputs.counts c.args.inputs.now)
    (g.I.Inputs.counts c.read_named.new.inputs) (g.I.Inputs.counts c.of_query.new.inputs) c.of_query.ensures.counts.leaves.rises bytes searched behind

pub returns-in-Ok-Some-clause-opens : goal.returns-in-Ok-Some-clause-opens
returns-in-Ok-Some-clause-opens g c =
    let counts = rw c.in-Ok-Some.field-0-is at c.in-Ok-Some.ensures.counts in
    read_opens c.of_query.result (stats_of c.args.action) (g.I.Inputs.counts c.args.inputs.now) (g.I.Inputs.counts c.read_named.new.inputs) (g.I.Inputs.counts c.of_query.new.inputs)
    c.of_query.ensures.shape counts.opened counts.missed c.of_query.ensures.counts

pub returns-in-Ok-Some-clause-alone : goal.returns-in-Ok-Some-clause-alone
returns-in-Ok-Some-clause-alone g c =
    let counts = rw c.in-Ok-Some.field-0-is at c.in-Ok-Some.ensures.counts in
    read_alone c.of_query.result c.args.action c.args.name.now (stats_of c.args.action) (g.I.Inputs.counts c.args.inputs.now) (g.I.Inputs.counts c.read_named.new.inputs) (g.I.Inputs.counts c.of_query.new.inputs)
    c.of_query.ensures.shape counts.opened counts.missed c.of_query.ensures.alone
