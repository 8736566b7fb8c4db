use Rattle.std.proofs.Common.{◌≤◌, ◌+◌, [], length, refl, ap, arith}
use Rattle.std.specs.Fn.{FnReturnsAt}
use Rattle.std.proofs.lemmas.Result.{err_from_is_err_and}
use Rattle.item_tree.specs.declared.code.Code.TheVariants.{PJST0007}
use Rattle.module_names.specs.Remaining.{state_of, files_in, source_view}
use Rattle.module_names.proofs.Stepping.{told_from, told_all, missing_told, unread_told, body_told, library_told, refused_held, found_held, library_held, missing_counts, body_counts, opened_fault, opened_short, opened_refused, opened_top, library_opened}
use Rattle.module_names.proofs.library_loading.add_wanted.Goals as goal

pub returns-in_err-read_file-clause-opened : goal.returns-in_err-read_file-clause-opened
returns-in_err-read_file-clause-opened g c =
    let e = err_from_is_err_and c.from_residual.result c.from_residual.ensures.1 in
    rw (e.1, e.2)
    (opened_fault (Unit {0}) (length (files_in (state_of c.args.loading.now))) 0 c.in_err-read_file.field-0.0 _ _ c.requires.room c.in_err-read_file.ensures.counts.opened)

pub returns-in_err-add_library-in-None-clause-opened : goal.returns-in_err-add_library-in-None-clause-opened
returns-in_err-add_library-in-None-clause-opened g c =
    let e = err_from_is_err_and c.from_residual-in_err-add_library-in-None.result c.from_residual-in_err-add_library-in-None.ensures.1 in
    let counts = rw c.in-Read.is at c.in_ok-read_file.ensures.counts in
    rw (e.1, e.2)
    (opened_short (Unit {0}) (length (files_in (state_of c.args.loading.now))) 0 (g.I.Inputs.counts c.args.inputs.now) (g.I.Inputs.counts c.read_file.new.inputs) c.requires.room counts.opened)

pub returns-in-Missing-clause-told : goal.returns-in-Missing-clause-told
returns-in-Missing-clause-told g c =
    let found = rw c.in-Missing.is at c.in_ok-read_file.ensures.found in
    told_from (g.I.Inputs.world c.args.inputs.now)
    (λ w h sources before are asks.
    missing_told (Unit {0}) (FnReturnsAt g.F.Fn c.args.read) w before (state_of c.args.loading.now) before c.args.import c.count_files-opened.result c.refuse_top.result
    c.count_files-opened.ensures c.refuse_top.ensures h sources are asks) found

pub returns-in-Missing-clause-held : goal.returns-in-Missing-clause-held
returns-in-Missing-clause-held g c =
    told_all (g.I.Inputs.world c.args.inputs.now)
    (λ w h. refused_held (Unit {0}) w (state_of c.args.loading.now) [] PJST0007 c.args.import.place c.count_files-opened.result c.refuse_top.result c.refuse_top.ensures h)

pub returns-in-Missing-clause-counts : goal.returns-in-Missing-clause-counts
returns-in-Missing-clause-counts g c =
    let counts = rw c.in-Missing.is at c.in_ok-read_file.ensures.counts in
    missing_counts _ (FnReturnsAt g.F.Fn c.args.read) (state_of c.args.loading.now).path c.args.import.place c.count_files-opened.result c.refuse_top.result _ _ c.refuse_top.ensures counts

pub returns-in-Missing-clause-opened : goal.returns-in-Missing-clause-opened
returns-in-Missing-clause-opened g c =
    let counts = rw c.in-Missing.is at c.in_ok-read_file.ensures.counts in
    let few : length (files_in (state_of c.args.loading.now)) ≤ 64 = omega (arith, c.requires.room) in
    opened_top (Unit {0}) (state_of c.args.loading.now).path PJST0007 c.args.import.place c.count_files-opened.result (length (files_in (state_of c.args.loading.now))) 0
    c.refuse_top.result (g.I.Inputs.counts c.args.inputs.now) (g.I.Inputs.counts c.read_file.new.inputs) c.refuse_top.ensures c.count_files-opened.ensures few counts.opened

pub returns-in-Refused-clause-told : goal.returns-in-Refused-clause-told
returns-in-Refused-clause-told g c =
    let found = rw c.in-Refused.is at c.in_ok-read_file.ensures.found in
    told_from (g.I.Inputs.world c.args.inputs.now)
    (λ w h sources before are asks.
    unread_told (Unit {0}) (FnReturnsAt g.F.Fn c.args.read) w before (state_of c.args.loading.now) before c.args.import c.refused.result
    c.in-Refused.code c.in-Refused.place c.count_files-opened.result c.in-Refused.contents c.count_files-opened.ensures c.refused.ensures h sources are asks) found

pub returns-in-Refused-clause-held : goal.returns-in-Refused-clause-held
returns-in-Refused-clause-held g c =
    let found = rw c.in-Refused.is at c.in_ok-read_file.ensures.found in
    told_from (g.I.Inputs.world c.args.inputs.now)
    (λ w h held.
    found_held (Unit {0}) (FnReturnsAt g.F.Fn c.args.read) w [] c.refused.result c.args.import.name c.in-Refused.code c.in-Refused.place _ c.in-Refused.contents c.refused.ensures h) found

pub returns-in-Refused-clause-opened : goal.returns-in-Refused-clause-opened
returns-in-Refused-clause-opened g c =
    let counts = rw c.in-Refused.is at c.in_ok-read_file.ensures.counts in
    opened_refused (Unit {0}) (length (files_in (state_of c.args.loading.now))) 0 _ _ c.refused.result _ _ c.requires.room c.refused.ensures (ap (λ n. n + 1) c.count_files-opened.ensures) counts.opened

pub returns-in-Some-clause-told : goal.returns-in-Some-clause-told
returns-in-Some-clause-told g c =
    let found = rw c.in-Read.is at c.in_ok-read_file.ensures.found in
    let fault = rw c.contents_of-contents.ensures at c.refused-in-Some.ensures in
    told_from (g.I.Inputs.world c.args.inputs.now)
    (λ w h sources before are asks.
    body_told (Unit {0}) (FnReturnsAt g.F.Fn c.args.read) w before (state_of c.args.loading.now) before c.args.import c.refused-in-Some.result
    c.in-Read.source c.in-Some.place c.count_files-opened.result c.count_files-opened.ensures fault c.in-Some.is h sources are asks) found

pub returns-in-Some-clause-counts : goal.returns-in-Some-clause-counts
returns-in-Some-clause-counts g c =
    let counts = rw c.in-Read.is at c.in_ok-read_file.ensures.counts in
    body_counts _ (FnReturnsAt g.F.Fn c.args.read) c.in-Read.source _ _ c.refused-in-Some.result _ _ c.refused-in-Some.ensures refl counts

pub returns-in-Some-clause-opened : goal.returns-in-Some-clause-opened
returns-in-Some-clause-opened g c =
    let counts = rw c.in-Read.is at c.in_ok-read_file.ensures.counts in
    opened_refused (Unit {0}) (length (files_in (state_of c.args.loading.now))) 0 _ _ c.refused-in-Some.result _ _ c.requires.room c.refused-in-Some.ensures (ap (λ n. n + 1) c.count_files-opened.ensures) counts.opened

pub returns-in_ok-add_library-in-None-clause-told : goal.returns-in_ok-add_library-in-None-clause-told
returns-in_ok-add_library-in-None-clause-told g c =
    let found = rw c.in-Read.is at c.in_ok-read_file.ensures.found in
    told_from (g.I.Inputs.world c.args.inputs.now)
    (λ w h sources before are asks.
    library_told (Unit {0}) (FnReturnsAt g.F.Fn c.args.read) w before (state_of c.args.loading.now) _ c.args.import c.in_ok-add_library-in-None.field-0
    c.in-Read.source c.in-None.is h c.in_ok-add_library-in-None.ensures sources are asks) found

pub returns-in_ok-add_library-in-None-clause-held : goal.returns-in_ok-add_library-in-None-clause-held
returns-in_ok-add_library-in-None-clause-held g c =
    let found = rw c.in-Read.is at c.in_ok-read_file.ensures.found in
    told_from (g.I.Inputs.world c.args.inputs.now)
    (λ w h. library_held (FnReturnsAt g.F.Fn c.args.read) w (state_of c.args.loading.now) _ c.args.import.name c.in-Read.source h c.in_ok-add_library-in-None.ensures) found

pub returns-in_ok-add_library-in-None-clause-opened : goal.returns-in_ok-add_library-in-None-clause-opened
returns-in_ok-add_library-in-None-clause-opened g c =
    let counts = rw c.in-Read.is at c.in_ok-read_file.ensures.counts in
    library_opened c.in_ok-add_library-in-None.field-0 (state_of c.args.loading.now) (state_of c.add_library.new.loading) c.args.import.name (source_view c.in-Read.source)
    (g.I.Inputs.counts c.args.inputs.now) (g.I.Inputs.counts c.read_file.new.inputs)
    c.requires.room c.in_ok-add_library-in-None.ensures counts.opened
