use Rattle.std.proofs.Common.{◌≡◌, ◌∙◌, List, length, map, sym, ap, subst}
use Rattle.tuple_rows.specs.Tuples.{Row, AllOfWidth, row_list}
use Rattle.order_runs.specs.declared.run.Run.{Run}
use Rattle.order_runs.specs.Orders.{sorted, rows}
use Rattle.order_runs.specs.Runs.{Entry, entries_of, run_entries, concat, all_key_lists, AllCounted, AllSeen}
use Rattle.order_runs.proofs.TotalKeys.{below_weak}
use Rattle.order_runs.proofs.RunLists.{all_seen, all_counted, merged_sorted, sorted_wide, runs_wide}
use Rattle.order_runs.proofs.merge.merge_runs.Goals as goal

pub find_conflict-requires : goal.find_conflict-requires
find_conflict-requires c =
    subst (λ (rs : List Run). AllCounted (length c.args.columns.now) rs) (sym c.as_slice.ensures.value)
    (all_counted c.args.width (length c.args.columns.now) c.args.runs.items c.requires)

pub returns-in-Err-clause-fault : goal.returns-in-Err-clause-fault
returns-in-Err-clause-fault c = λ XS a.
    c.in-Err.ensures.fault (all_key_lists XS)
    (subst (λ (rs : List Run). AllSeen rs (all_key_lists XS)) (sym c.as_slice.ensures.value) (all_seen c.args.columns.now c.args.runs.items XS a))

pub of-requires : goal.of-requires
of-requires c =
    let tuples : row_list c.in_ok-tuples_of.field-0.items ≡ rows (sorted c.args.columns.now (entries_of (concat (map run_entries c.args.runs.items)))) =
    c.in_ok-tuples_of.ensures ∙ ap rows (c.in_ok-entries.ensures ∙ ap (λ (es : List Entry). sorted c.args.columns.now (entries_of es)) c.in_ok-joined.ensures) in
    subst (λ (ts : List Row). AllOfWidth c.args.width ts) (sym tuples)
    (sorted_wide c.args.width c.args.columns.now _ (runs_wide c.args.width (length c.args.columns.now) c.args.runs.items c.requires))

pub returns-clause-value : goal.returns-clause-value
returns-clause-value c = λ XS a.
    c.of.ensures
    ∙ ap (λ (ts : List Row). record { width = c.args.width; tuples = ts })
    (c.in_ok-tuples_of.ensures
    ∙ ap rows (c.in_ok-entries.ensures ∙ ap (λ (es : List Entry). sorted c.args.columns.now (entries_of es)) c.in_ok-joined.ensures
    ∙ merged_sorted c.args.columns.now (below_weak c.keys_agree.ensures c.args.columns.now) c.args.runs.items XS a))

pub returns-clause-no_clash : goal.returns-clause-no_clash
returns-clause-no_clash c = λ XS a.
    c.in_default.ensures.none (all_key_lists XS)
    (subst (λ (rs : List Run). AllSeen rs (all_key_lists XS)) (sym c.as_slice.ensures.value) (all_seen c.args.columns.now c.args.runs.items XS a))
