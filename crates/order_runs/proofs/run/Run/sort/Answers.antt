use Rattle.std.proofs.Common.{◌≡◌, ◌≤◌, ◌∙◌, ℕ, Some, List, [], sym, ap, subst, length, take}
use Rattle.std.proofs.lemmas.List.{length-take-le}
use Rattle.tuple_rows.specs.Tuples.{AllOfWidth}
use Rattle.tuple_rows.specs.Keys.{KeyList, Keyed}
use Rattle.order_runs.specs.Clashes.{first_clash}
use Rattle.order_runs.specs.Orders.{key_lists, rows}
use Rattle.order_runs.specs.Runs.{Entry, entries_of}
use Rattle.order_runs.specs.Seen.{AllCount, SeenStandsFor}
use Rattle.order_runs.proofs.RowClashes.{clash_inside}
use Rattle.order_runs.proofs.RunLists.{sorted_wide}
use Rattle.order_runs.proofs.ColumnLists.{count_take, keys_take, length-keys}
use Rattle.order_runs.proofs.run.Run.sort.Goals as goal

pub slice_bounds-seen_of-end : goal.slice_bounds-seen_of-end
slice_bounds-seen_of-end c =
    let K : List KeyList = key_lists (entries_of c.args.entries.items) in
    let stands = subst (λ (es : List Entry). SeenStandsFor c.in_ok-seen.seen (key_lists (entries_of es))) c.as_slice.ensures.value c.in_ok-seen.ensures.stands in
    let clash : first_clash K ≡ Some (c.in-Some.tuple, c.in-Some.column) = sym (c.clash_after.ensures [] K c.in_ok-none.ensures.stands stands) ∙ c.in-Some.is in
    let within : c.in-Some.tuple ≤ length c.args.entries.items =
    subst (λ (n : ℕ). c.in-Some.tuple ≤ n) (length-keys c.args.entries.items) ((clash_inside [] K c.in-Some.tuple c.in-Some.column clash).1) in
    sym (length-take-le c.in-Some.tuple c.deref.result.now (subst (λ (es : List Entry). c.in-Some.tuple ≤ length es) (sym c.deref.ensures.value) within))

pub seen_of-requires-in-Some : goal.seen_of-requires-in-Some
seen_of-requires-in-Some c =
    subst (λ (es : List Entry). AllCount (length c.args.columns.now) (key_lists (entries_of (take c.in-Some.tuple es)))) (sym c.deref.ensures.value)
    (subst (AllCount (length c.args.columns.now)) (sym (keys_take c.in-Some.tuple c.args.entries.items))
    (count_take (length c.args.columns.now) c.in-Some.tuple (key_lists (entries_of c.args.entries.items)) c.requires))

pub returns-in_ok-seen-in-Some-clause-fault : goal.returns-in_ok-seen-in-Some-clause-fault
returns-in_ok-seen-in-Some-clause-fault c =
    let K : List KeyList = key_lists (entries_of c.args.entries.items) in
    let stands = subst (λ (es : List Entry). SeenStandsFor c.in_ok-seen.seen (key_lists (entries_of es))) c.as_slice.ensures.value c.in_ok-seen.ensures.stands in (
      sym (c.clash_after.ensures [] K c.in_ok-none.ensures.stands stands) ∙ c.in-Some.is,
      subst (SeenStandsFor c.in_ok-seen-in-Some.seen)
          (ap (λ (es : List Entry). key_lists (entries_of (take c.in-Some.tuple es))) c.deref.ensures.value ∙ keys_take c.in-Some.tuple c.args.entries.items)
          c.in_ok-seen-in-Some.ensures.stands,
    )

pub returns-in_ok-entries-in-None-clause-fits : goal.returns-in_ok-entries-in-None-clause-fits
returns-in_ok-entries-in-None-clause-fits c = λ width a. (
  c.in_ok-seen.ensures.count,
  subst (λ (X : List Keyed). AllOfWidth width (rows X)) (sym c.in_ok-entries-in-None.ensures)
      (sorted_wide width c.args.columns.now (entries_of c.args.entries.items) a),
)
