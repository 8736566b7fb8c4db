use Rattle.std.proofs.Common.{◌≡◌, ◌<◌, ◌≤◌, ◌+◌, ◌||◌, true, List, length, get_or, inl, inr, refl, sym, ap, ◌∙◌, arith}
use Rattle.std.specs.Str.{bytes_eq}
use Rattle.module_names.specs.declared.head.Import.{Import}
use Rattle.module_names.specs.declared.order.File.{File}
use Rattle.module_names.specs.Loading.{has_name}
use Rattle.module_names.specs.inside.Order.{file_names}
use Rattle.item_tree.specs.declared.code.Code.TheVariants.{PJST0006, PJST0008}
use Rattle.module_names.specs.Remaining.{state_of}
use Rattle.module_names.proofs.Steps.{is_next, refuses_first, turned, code_done, code_again, code_circle, code_full, code_asks, or_first, or_second}
use Rattle.module_names.proofs.order.next_step.Goals as goal
use Rattle.module_names.proofs.order.next_step.Goals.{then-eq-via-then-eq, then-eq-via-else-eq+then-has_file}

pub returns-then-file-len-clause-step : goal.returns-then-file-len-clause-step
returns-then-file-len-clause-step g c = λ sources end_ m.
    let long = c.len.ensures ∙ c.in-Some.file.source.imports.ok.0 in
    let le : length c.in-Some.file.source.imports.items ≤ c.in-Some.file.taken = omega arith in
    code_done sources c.args.loading.now.path.items c.pop.new.self.items c.args.loading.now.done.items c.in-Some.file c.push.new.self.items end_
    c.in-Some.ensures.items le c.in_ok-push.ensures.items m

pub returns-then-eq-clause-step : goal.returns-then-eq-clause-step
returns-then-eq-clause-step g c = λ sources.
    let long = c.len.ensures ∙ c.in-Some.file.source.imports.ok.0 in
    let lt : c.in-Some.file.taken < length c.in-Some.file.source.imports.items = omega arith in
    let is : c.in_ok-import.import ≡ get_or c.in-Some.file.source.imports.items c.in-Some.file.taken c.in_ok-import.import =
    c.in_ok-import.ensures ∙ c.index.ensures
    ∙ ap (λ (d : Import). get_or c.in-Some.file.source.imports.items c.in-Some.file.taken d) (sym c.in_ok-import.ensures) in
    let on : (bytes_eq c.in_ok-import.import.name c.in-Some.file.name || has_name c.in_ok-import.import.name (file_names c.pop.new.self.items)) ≡ true =
    elim c.then-eq.branch [
      | then-eq-via-then-eq w ↦ or_first _ _ (sym c.eq.ensures ∙ w.if-eq.true)
      | then-eq-via-else-eq+then-has_file w ↦ or_second _ _
          (ap (λ (fs : List (File g.row.T.Denot)). has_name c.in_ok-import.import.name (file_names fs)) (sym w.deref.ensures.value) ∙ sym w.has_file.ensures ∙ w.if-has_file.true)
    ] in
    let deep = c.len-2.ensures ∙ c.pop.new.self.ok.0 in
    let wide = c.len-3.ensures ∙ c.args.loading.now.done.ok.0 in
    let count : c.len-2.result + c.len-3.result + 1 ≡ length c.pop.new.self.items + length c.args.loading.now.done.items + 1 = omega (arith, deep, wide) in
    code_circle sources c.args.loading.now.path.items c.pop.new.self.items c.args.loading.now.done.items c.in-Some.file c.in_ok-import.import
    c.in_ok-circle.circle _ count
    (is_next c.args.loading.now.path.items c.pop.new.self.items c.in-Some.file c.in_ok-import.import c.in-Some.ensures.items lt is)
    c.in_ok-circle.ensures on

pub returns-then-eq-clause-refused : goal.returns-then-eq-clause-refused
returns-then-eq-clause-refused g c =
    let deep = c.len-2.ensures ∙ c.pop.new.self.ok.0 in
    let wide = c.len-3.ensures ∙ c.args.loading.now.done.ok.0 in
    let count : c.len-2.result + c.len-3.result + 1 ≡ length c.pop.new.self.items + length c.args.loading.now.done.items + 1 = omega (arith, deep, wide) in
    refuses_first c.args.loading.now.path.items c.pop.new.self.items c.in-Some.file c.in_ok-circle.circle (state_of record { path = c.push-then-eq.new.self; done = c.args.loading.now.done })
    c.args.loading.now.done.items c.in-Some.ensures.items PJST0006 _ _ count c.in_ok-circle.ensures (inl refl) (ap turned c.in_ok-push-2.ensures.items) refl

pub returns-then-has_file-2-clause-step : goal.returns-then-has_file-2-clause-step
returns-then-has_file-2-clause-step g c = λ sources end_ m.
    let long = c.len.ensures ∙ c.in-Some.file.source.imports.ok.0 in
    let lt : c.in-Some.file.taken < length c.in-Some.file.source.imports.items = omega arith in
    let is : c.in_ok-import.import ≡ get_or c.in-Some.file.source.imports.items c.in-Some.file.taken c.in_ok-import.import =
    c.in_ok-import.ensures ∙ c.index.ensures
    ∙ ap (λ (d : Import). get_or c.in-Some.file.source.imports.items c.in-Some.file.taken d) (sym c.in_ok-import.ensures) in
    code_again sources c.args.loading.now.path.items c.pop.new.self.items c.args.loading.now.done.items c.in-Some.file c.in_ok-import.import
    c.after_import.result c.push-then-has_file-2.new.self.items end_
    (is_next c.args.loading.now.path.items c.pop.new.self.items c.in-Some.file c.in_ok-import.import c.in-Some.ensures.items lt is)
    c.after_import.ensures c.in_ok-push-3.ensures.items (sym c.eq.ensures ∙ c.if-eq.false)
    (ap (λ (fs : List (File g.row.T.Denot)). has_name c.in_ok-import.import.name (file_names fs)) (sym c.deref.ensures.value) ∙ sym c.has_file.ensures ∙ c.if-has_file.false)
    (ap (λ (fs : List (File g.row.T.Denot)). has_name c.in_ok-import.import.name (file_names fs)) (sym c.deref-2.ensures.value) ∙ sym c.has_file-2.ensures ∙ c.if-has_file-2.true)
    m

pub returns-then-opened-ge-MOST_FILES-clause-step : goal.returns-then-opened-ge-MOST_FILES-clause-step
returns-then-opened-ge-MOST_FILES-clause-step g c = λ sources.
    let long = c.len.ensures ∙ c.in-Some.file.source.imports.ok.0 in
    let lt : c.in-Some.file.taken < length c.in-Some.file.source.imports.items = omega arith in
    let is : c.in_ok-import.import ≡ get_or c.in-Some.file.source.imports.items c.in-Some.file.taken c.in_ok-import.import =
    c.in_ok-import.ensures ∙ c.index.ensures
    ∙ ap (λ (d : Import). get_or c.in-Some.file.source.imports.items c.in-Some.file.taken d) (sym c.in_ok-import.ensures) in
    let deep = c.len-2.ensures ∙ c.pop.new.self.ok.0 in
    let wide = c.len-3.ensures ∙ c.args.loading.now.done.ok.0 in
    let most : 64 ≤ length c.pop.new.self.items + length c.args.loading.now.done.items + 1 = omega (arith, deep, wide, c.if-opened-ge-MOST_FILES.true) in
    let count : c.len-2.result + c.len-3.result + 1 ≡ length c.pop.new.self.items + length c.args.loading.now.done.items + 1 = omega (arith, deep, wide) in
    code_full sources c.args.loading.now.path.items c.pop.new.self.items c.args.loading.now.done.items c.in-Some.file c.in_ok-import.import
    c.in_ok-full.full _ count
    (is_next c.args.loading.now.path.items c.pop.new.self.items c.in-Some.file c.in_ok-import.import c.in-Some.ensures.items lt is)
    c.in_ok-full.ensures (sym c.eq.ensures ∙ c.if-eq.false)
    (ap (λ (fs : List (File g.row.T.Denot)). has_name c.in_ok-import.import.name (file_names fs)) (sym c.deref.ensures.value) ∙ sym c.has_file.ensures ∙ c.if-has_file.false)
    (ap (λ (fs : List (File g.row.T.Denot)). has_name c.in_ok-import.import.name (file_names fs)) (sym c.deref-2.ensures.value) ∙ sym c.has_file-2.ensures ∙ c.if-has_file-2.false)
    most

pub returns-then-opened-ge-MOST_FILES-clause-refused : goal.returns-then-opened-ge-MOST_FILES-clause-refused
returns-then-opened-ge-MOST_FILES-clause-refused g c =
    let deep = c.len-2.ensures ∙ c.pop.new.self.ok.0 in
    let wide = c.len-3.ensures ∙ c.args.loading.now.done.ok.0 in
    let count : c.len-2.result + c.len-3.result + 1 ≡ length c.pop.new.self.items + length c.args.loading.now.done.items + 1 = omega (arith, deep, wide) in
    refuses_first c.args.loading.now.path.items c.pop.new.self.items c.in-Some.file c.in_ok-full.full (state_of record { path = c.push-then-opened-ge-MOST_FILES.new.self; done = c.args.loading.now.done })
    c.args.loading.now.done.items c.in-Some.ensures.items PJST0008 _ _ count c.in_ok-full.ensures (inr refl) (ap turned c.in_ok-push-4.ensures.items) refl

pub returns-clause-step : goal.returns-clause-step
returns-clause-step g c =
    let long = c.len.ensures ∙ c.in-Some.file.source.imports.ok.0 in
    let lt : c.in-Some.file.taken < length c.in-Some.file.source.imports.items = omega arith in
    let is : c.in_ok-import.import ≡ get_or c.in-Some.file.source.imports.items c.in-Some.file.taken c.in_ok-import.import =
    c.in_ok-import.ensures ∙ c.index.ensures
    ∙ ap (λ (d : Import). get_or c.in-Some.file.source.imports.items c.in-Some.file.taken d) (sym c.in_ok-import.ensures) in
    let deep = c.len-2.ensures ∙ c.pop.new.self.ok.0 in
    let wide = c.len-3.ensures ∙ c.args.loading.now.done.ok.0 in
    let room : length c.pop.new.self.items + length c.args.loading.now.done.items + 1 < 64 = omega (arith, deep, wide, c.if-opened-ge-MOST_FILES.false) in
    code_asks c.args.loading.now.path.items c.pop.new.self.items c.args.loading.now.done.items c.in-Some.file c.in_ok-import.import
    c.after_import-2.result c.push-2.new.self.items
    (is_next c.args.loading.now.path.items c.pop.new.self.items c.in-Some.file c.in_ok-import.import c.in-Some.ensures.items lt is)
    c.after_import-2.ensures c.in_ok-push-5.ensures.items (sym c.eq.ensures ∙ c.if-eq.false)
    (ap (λ (fs : List (File g.row.T.Denot)). has_name c.in_ok-import.import.name (file_names fs)) (sym c.deref.ensures.value) ∙ sym c.has_file.ensures ∙ c.if-has_file.false)
    (ap (λ (fs : List (File g.row.T.Denot)). has_name c.in_ok-import.import.name (file_names fs)) (sym c.deref-2.ensures.value) ∙ sym c.has_file-2.ensures ∙ c.if-has_file-2.false)
    room
