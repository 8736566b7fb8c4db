use Rattle.std.proofs.Common.{length, refl}
use Rattle.std.specs.Fn.{FnReturnsAt}
use Rattle.module_names.specs.Remaining.{state_of, files_in}
use Rattle.module_names.proofs.Finishing.{query_unread, query_kept, query_told, query_held, query_opened, found_then, not_missing, query_refused}
use Rattle.module_names.proofs.Stepping.{told_from, told_from_two, told_all, unread_counts}
use Rattle.module_names.proofs.library_loading.load.Goals as goal

pub returns-in_ok-copy-in-Refused-clause-told : goal.returns-in_ok-copy-in-Refused-clause-told
returns-in_ok-copy-in-Refused-clause-told g c =
    let found = rw c.in-Refused.is at c.in_ok-read_file.ensures.found in
    let fault = rw c.in_ok-copy-in-Refused.ensures at c.refused.ensures in
    told_from (g.I.Inputs.world c.args.inputs.now)
    (λ w h sources are.
    query_unread (FnReturnsAt g.F.Fn c.args.read) c.args.name.now w c.refused.result c.in-Refused.code c.in-Refused.place c.in-Refused.contents fault h sources are) found

pub returns-in_ok-copy-in-Refused-clause-held : goal.returns-in_ok-copy-in-Refused-clause-held
returns-in_ok-copy-in-Refused-clause-held g c =
    let found = rw c.in-Refused.is at c.in_ok-read_file.ensures.found in
    let fault = rw c.in_ok-copy-in-Refused.ensures at c.refused.ensures in
    told_from (g.I.Inputs.world c.args.inputs.now)
    (λ w h. query_kept (FnReturnsAt g.F.Fn c.args.read) c.args.name.now w c.refused.result c.in-Refused.code c.in-Refused.place c.in-Refused.contents fault h) found

pub returns-in_ok-copy-in-Refused-clause-counts : goal.returns-in_ok-copy-in-Refused-clause-counts
returns-in_ok-copy-in-Refused-clause-counts g c =
    let counts = rw c.in-Refused.is at c.in_ok-read_file.ensures.counts in
    unread_counts _ (FnReturnsAt g.F.Fn c.args.read) _ c.in-Refused.place _ c.refused.result _ _ c.refused.ensures counts

pub returns-in_ok-copy-in-Refused-clause-opened : goal.returns-in_ok-copy-in-Refused-clause-opened
returns-in_ok-copy-in-Refused-clause-opened g c =
    let counts = rw c.in-Refused.is at c.in_ok-read_file.ensures.counts in
    query_refused g.row.T.Denot _ _ c.refused.result (g.I.Inputs.counts c.args.inputs.now) (g.I.Inputs.counts c.read_file.new.inputs) c.refused.ensures refl counts.opened

pub returns-in_ok-loading-in-Read-clause-told : goal.returns-in_ok-loading-in-Read-clause-told
returns-in_ok-loading-in-Read-clause-told g c =
    let found = rw c.in-Read.is at c.in_ok-read_file.ensures.found in
    let begins = rw c.in_ok-copy-in-Read.ensures at c.in_ok-loading-in-Read.ensures in
    told_from_two (g.I.Inputs.world c.args.inputs.now)
    (λ w h ends. query_told (FnReturnsAt g.F.Fn c.args.read) c.args.name.now w (state_of c.in_ok-loading-in-Read.loading) c.in-Read.source c.finish.result begins h ends)
    found (rw c.in_ok-read_file.ensures.world at c.finish.ensures.told)

pub returns-in_ok-loading-in-Read-clause-held : goal.returns-in_ok-loading-in-Read-clause-held
returns-in_ok-loading-in-Read-clause-held g c =
    let found = rw c.in-Read.is at c.in_ok-read_file.ensures.found in
    let begins = rw c.in_ok-copy-in-Read.ensures at c.in_ok-loading-in-Read.ensures in
    told_from_two (g.I.Inputs.world c.args.inputs.now)
    (λ w h ends. query_held (FnReturnsAt g.F.Fn c.args.read) c.args.name.now w (state_of c.in_ok-loading-in-Read.loading) c.in-Read.source c.finish.result begins h ends)
    found (rw c.in_ok-read_file.ensures.world at c.finish.ensures.held)

pub returns-in_ok-loading-in-Read-clause-counts : goal.returns-in_ok-loading-in-Read-clause-counts
returns-in_ok-loading-in-Read-clause-counts g c =
    let counts = rw c.in-Read.is at c.in_ok-read_file.ensures.counts in
    found_then (FnReturnsAt g.F.Fn c.args.read) c.in-Read.source c.finish.result _ _ _ counts c.finish.ensures.counts

pub returns-in_ok-loading-in-Read-clause-opened : goal.returns-in_ok-loading-in-Read-clause-opened
returns-in_ok-loading-in-Read-clause-opened g c =
    let counts = rw c.in-Read.is at c.in_ok-read_file.ensures.counts in
    let begins = rw c.in_ok-copy-in-Read.ensures at c.in_ok-loading-in-Read.ensures in
    query_opened (FnReturnsAt g.F.Fn c.args.read) c.args.name.now (state_of c.in_ok-loading-in-Read.loading) c.in-Read.source c.finish.result _ _ _
    begins counts.opened c.finish.ensures.counts.falls c.finish.ensures.opened

pub returns-in_ok-loading-in-Read-clause-missing : goal.returns-in_ok-loading-in-Read-clause-missing
returns-in_ok-loading-in-Read-clause-missing g c =
    told_all (g.I.Inputs.world c.args.inputs.now)
    (λ w. not_missing (length (files_in (state_of c.in_ok-loading-in-Read.loading))) w c.args.name.now c.finish.result _ _ c.finish.ensures.opened)
