-- Tuples in the order of their keys.
use Rattle.std.specs.Prelude.{ℕ, Bool, List, [], ◌∷◌, map, Option, Some, None, Result, Ok, Err, if◌then◌else◌}
use Rattle.std.specs.Ordering.{is_lt, ordering_then}
use Rattle.std.specs.List.Sorted.{IsSortedBy, IsStableBy}
use Rattle.std.specs.declared.cmp.Ordering.{Ordering}
use Rattle.std.specs.declared.cmp.Ordering.TheVariants.{Less, Equal, Greater}
use Rattle.item_tree.specs.Datum.{Datum}
use Rattle.item_tree.specs.Compare.{Atom, atom}
use Rattle.item_tree.specs.Keys.{total_order}
use Rattle.tuple_rows.specs.Tuples.{Row}
use Rattle.tuple_rows.specs.Keys.{KeyList, Keyed}
use Rattle.order_runs.specs.declared.column.Column.{Column}
use Rattle.order_runs.specs.Clashes.{first_key, other_keys, first_clash}

-- atomics compare as they do, and where they do not, which in a column without a clash never is so,
-- they stand in the order of their classes
abbrev pub atoms_order : Option Atom → Option Atom → Ordering
atoms_order None None = Equal
atoms_order None (Some b) = Greater
atoms_order (Some a) None = Less
atoms_order (Some a) (Some b) = total_order a b

abbrev pub value_order : Datum → Datum → Ordering
value_order v w = atoms_order (atom v) (atom w)

-- an absent key is below all others, or above them
abbrev pub key_order : (empty_greatest : Bool) → Option Datum → Option Datum → Ordering
key_order greatest None None = Equal
key_order greatest None (Some w) = if greatest then Greater else Less
key_order greatest (Some v) None = if greatest then Less else Greater
key_order greatest (Some v) (Some w) = value_order v w

-- a descending column is turned round as a whole
abbrev pub column_order : Column → Option Datum → Option Datum → Ordering
column_order c k l =
    if c.descending then key_order c.empty_greatest l k else key_order c.empty_greatest k l

-- key lists go by their first columns, then by the next ones
abbrev pub keys_order : List Column → KeyList → KeyList → Ordering
keys_order [] ks ls = Equal
keys_order (c ∷ cs) ks ls =
    ordering_then (column_order c (first_key ks) (first_key ls))
    (keys_order cs (other_keys ks) (other_keys ls))

abbrev pub below : List Column → Keyed → Keyed → Bool
below columns p q = is_lt (keys_order columns p.0 q.0)

-- a list has the elements of another, sorted, and ties stand as they did
pub record IsOrdered {X : Type 0} (lt : X → X → Bool) (xs ys : List X) : Type 0 where
  pub ascends : IsSortedBy lt ys
  pub stable : IsStableBy lt xs ys

-- that list: each element is put in front of the first one that is not below it
abbrev pub placed : {X : Type 0} → (X → X → Bool) → X → List X → List X
placed lt x [] = x ∷ []
placed lt x (y ∷ ys) = if lt y x then y ∷ placed lt x ys else (x ∷ y ∷ ys)

abbrev pub ordered : {X : Type 0} → (X → X → Bool) → List X → List X
ordered lt [] = []
ordered lt (x ∷ xs) = placed lt x (ordered lt xs)

-- tuples sorted by the columns of their keys, with ties in place
abbrev pub sorted : List Column → List Keyed → List Keyed
sorted columns X = ordered (below columns) X

abbrev pub key_lists : List Keyed → List KeyList
key_lists X = map (λ p. p.0) X

abbrev pub rows : List Keyed → List Row
rows X = map (λ p. p.1) X
