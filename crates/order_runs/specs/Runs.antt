-- Sorted runs, and the lists that they stand for.
use Rattle.std.specs.Prelude.{◌≡◌, ℕ, suc, Bool, ◌-◌, nat_le, List, [], ◌∷◌, ◌++◌, length, map, take, Option, Some, None, Vec, if◌then◌else◌}
use Rattle.std.specs.Ordering.{is_lt}
use Rattle.std.specs.declared.alloc.Global.{Global}
use Rattle.item_tree.specs.declared.item.Item.{Item}
use Rattle.tuple_rows.specs.declared.tuple.Tuple.{Tuple}
use Rattle.tuple_rows.specs.Tuples.{AllOfWidth, sequences}
use Rattle.tuple_rows.specs.Keys.{KeyList, Keyed, key_list}
use Rattle.order_runs.specs.declared.column.Column.{Column}
use Rattle.order_runs.specs.declared.run.Run.{Run}
use Rattle.order_runs.specs.declared.run.SortFault.{SortFault}
use Rattle.order_runs.specs.declared.run.SortFault.TheVariants as sort
use Rattle.order_runs.specs.declared.merge.MergeFault.{MergeFault}
use Rattle.order_runs.specs.declared.merge.MergeFault.TheVariants as merge
use Rattle.order_runs.specs.Clashes.{first_clash}
use Rattle.order_runs.specs.Orders.{keys_order, sorted, key_lists, rows}
use Rattle.order_runs.specs.Seen.{SeenStandsFor}

-- tuples with their keys, as the code has them
abbrev pub Entry : Type 0
Entry = Vec (Option Item) Global × Tuple

abbrev pub entry_of : Entry → Keyed
entry_of e = (key_list e.0, sequences e.1)

abbrev pub entries_of : List Entry → List Keyed
entries_of es = map entry_of es

-- the order of whatever has keys
abbrev pub keyed_below : {T : Type 0} → List Column → Vec (Option Item) Global × T
    → Vec (Option Item) Global × T → Bool
keyed_below columns a b = is_lt (keys_order columns (key_list a.0) (key_list b.0))

-- the run stands for this list, which it was sorted from
pub record RunStandsFor (columns : List Column) (run : Run) (X : List Keyed) : Type 0 where
  pub entries : entries_of run.entries.items ≡ sorted columns X
  pub seen : SeenStandsFor run.seen (key_lists X)

abbrev pub AllRunsStand : List Column → List Run → List (List Keyed) → Type 0
AllRunsStand columns [] [] = Unit {0}
AllRunsStand columns [] (X ∷ XS) = ⊥
AllRunsStand columns (r ∷ rs) [] = ⊥
AllRunsStand columns (r ∷ rs) (X ∷ XS) = RunStandsFor columns r X × AllRunsStand columns rs XS

-- the sort of a list fails with its earliest clash, and what was seen up to it; or memory ran out
abbrev pub SortFailsWith : List Keyed → SortFault → Type 0
SortFailsWith X (sort.Clash tuple column seen) =
    (first_clash (key_lists X) ≡ Some (tuple, column))
    × SeenStandsFor seen (take tuple (key_lists X))
SortFailsWith X sort.NoMemory = Unit {0}

abbrev pub concat : {A : Type 0} → List (List A) → List A
concat [] = []
concat (X ∷ XS) = X ++ concat XS

abbrev pub next_run : Option (ℕ × (ℕ × ℕ)) → Option (ℕ × (ℕ × ℕ))
next_run None = None
next_run (Some p) = Some (suc p.0, p.1)

-- the run, from 0, in which a tuple of the concatenated lists stands, and its number there
abbrev pub located : {A : Type 0} → List (List A) → (tuple column : ℕ) → Option (ℕ × (ℕ × ℕ))
located [] tuple column = None
located (X ∷ XS) tuple column =
    if nat_le tuple (length X) then Some (0, (tuple, column))
    else next_run (located XS (tuple - length X) column)

abbrev pub located_in : {A : Type 0} → List (List A) → Option (ℕ × ℕ) → Option (ℕ × (ℕ × ℕ))
located_in XS None = None
located_in XS (Some p) = located XS p.0 p.1

abbrev pub all_key_lists : List (List Keyed) → List (List KeyList)
all_key_lists XS = map key_lists XS

-- the earliest clash in the concatenation of these lists, by its list
abbrev pub ConflictIs : List (List KeyList) → MergeFault → Type 0
ConflictIs KS (merge.Conflict run tuple column) =
    located_in KS (first_clash (concat KS)) ≡ Some (run, (tuple, column))
ConflictIs KS merge.NoMemory = Unit {0}

-- the merge of lists fails with the earliest clash in their concatenation; or memory ran out
abbrev pub MergeFailsWith : List (List Keyed) → MergeFault → Type 0
MergeFailsWith XS fault = ConflictIs (all_key_lists XS) fault

-- a run has so many columns, and tuples of the width
abbrev pub RunFits : (width count : ℕ) → Run → Type 0
RunFits width count r =
    (length r.seen.columns ≡ count) × AllOfWidth width (rows (entries_of r.entries.items))

abbrev pub AllFit : (width count : ℕ) → List Run → Type 0
AllFit width count [] = Unit {0}
AllFit width count (r ∷ rs) = RunFits width count r × AllFit width count rs

abbrev pub run_entries : Run → List Entry
run_entries r = r.entries.items

-- each run has seen the keys of these tuples
abbrev pub AllSeen : List Run → List (List KeyList) → Type 0
AllSeen [] [] = Unit {0}
AllSeen [] (K ∷ KS) = ⊥
AllSeen (r ∷ rs) [] = ⊥
AllSeen (r ∷ rs) (K ∷ KS) = SeenStandsFor r.seen K × AllSeen rs KS

abbrev pub AllCounted : ℕ → List Run → Type 0
AllCounted count [] = Unit {0}
AllCounted count (r ∷ rs) = (length r.seen.columns ≡ count) × AllCounted count rs
