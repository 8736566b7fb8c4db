-- What is kept of the classes of keys, and the lists of keys that it stands for.
use Rattle.std.specs.Prelude.{◌≡◌, ℕ, zero, suc, Bool, false, List, [], ◌∷◌, length, Option, Some, None, is_some, if◌then◌else◌}
use Rattle.item_tree.specs.declared.class.Class.{Class}
use Rattle.tuple_rows.specs.Keys.{KeyList}
use Rattle.order_runs.specs.declared.column_seen.First.{First}
use Rattle.order_runs.specs.declared.column_seen.ColumnSeen.{ColumnSeen}
use Rattle.item_tree.specs.Classes.{same_class}
use Rattle.order_runs.specs.Clashes.{differ, first_classes, other_columns}

-- no class, one, or several
pub data Sees : Type 0 where
  nothing : Sees
  one : Class → Sees
  several : Sees

-- a key is of another class than one that was seen
abbrev pub meets : Sees → Option Class → Bool
meets nothing r = false
meets (one c) r = differ (Some c) r
meets several r = is_some r

abbrev pub seeing : Sees → Option Class → Sees
seeing st None = st
seeing nothing (Some d) = one d
seeing (one c) (Some d) = if same_class c d then one c else several
seeing several (Some d) = several

abbrev pub further : Option ℕ → Option ℕ
further None = None
further (Some n) = Some (suc n)

-- how many keys stand before the first one of another class than one seen before it
abbrev pub clash_from : Sees → List (Option Class) → Option ℕ
clash_from st [] = None
clash_from st (r ∷ rs) = if meets st r then Some 0 else further (clash_from (seeing st r) rs)

abbrev pub one_later : Option First → Option First
one_later None = None
one_later (Some f) = Some (record { class = f.class; before = suc f.before })

-- the first class
abbrev pub start_of : List (Option Class) → Option First
start_of [] = None
start_of (None ∷ rs) = one_later (start_of rs)
start_of (Some c ∷ rs) = Some (record { class = c; before = 0 })

abbrev pub column_seen : List (Option Class) → ColumnSeen
column_seen rs = record { first = start_of rs; other = clash_from nothing rs }

abbrev pub columns_seen : ℕ → List KeyList → List ColumnSeen
columns_seen zero K = []
columns_seen (suc w) K = column_seen (first_classes K) ∷ columns_seen w (other_columns K)

-- how many tuples were seen, and what is kept of each column
pub record Seen : Type 0 where
  pub tuples : ℕ
  pub columns : List ColumnSeen

-- each tuple has so many keys
abbrev pub AllCount : ℕ → List KeyList → Type 0
AllCount w [] = Unit {0}
AllCount w (k ∷ K) = (length k ≡ w) × AllCount w K

-- it stands for the keys of these tuples
pub record SeenStandsFor (s : Seen) (K : List KeyList) : Type 0 where
  pub tuples : s.tuples ≡ length K
  pub columns : s.columns ≡ columns_seen (length s.columns) K
  pub counted : AllCount (length s.columns) K
