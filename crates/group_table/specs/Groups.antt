-- Groups of tuples by their keys.
use Rattle.std.specs.Prelude.{ℕ, ◌==◌, ◌&&◌, Bool, true, false, not, List, [], ◌∷◌, if◌then◌else◌, map, Option, Some, None}
use Rattle.std.specs.List.{filter, flat_map, list_any, range_with_len, slice_index_or, slice_set}
use Rattle.item_tree.specs.Datum.{Datum}
use Rattle.item_tree.specs.Compare.{same_keys}
use Rattle.tuple_rows.specs.Tuples.{Row}
use Rattle.tuple_rows.specs.Keys.{KeyList, Keyed}

-- key lists are the same where their keys are, column by column
abbrev pub same_lists : KeyList → KeyList → Bool
same_lists [] [] = true
same_lists [] (l ∷ ls) = false
same_lists (k ∷ ks) [] = false
same_lists (k ∷ ks) (l ∷ ls) = same_keys k l && same_lists ks ls

module _ {K : Type 0} (same : K → K → Bool) where
  -- the different keys in order of first appearance
  abbrev pub firsts : List K → List K
  firsts [] = []
  firsts (k ∷ ks) = k ∷ filter (λ l. not (same k l)) (firsts ks)

module _ {K T : Type 0} (same : K → K → Bool) where
  -- what has these keys, in order
  abbrev pub having : K → List (K × T) → List T
  having k [] = []
  having k (p ∷ X) = if same k p.0 then p.1 ∷ having k X else having k X

  -- the different keys, each with what has them
  abbrev pub groups : List (K × T) → List (K × List T)
  groups X = map (λ k. (k, having k X)) (firsts same (map (λ p. p.0) X))

-- the sequence in a slot of a tuple
abbrev pub slot : ℕ → Row → List Datum
slot i t = slice_index_or t i []

abbrev pub first_slot : ℕ → List Row → List Datum
first_slot i [] = []
first_slot i (t ∷ ts) = slot i t

abbrev pub has_slot : List ℕ → ℕ → Bool
has_slot slots i = list_any (λ j. j == i) slots

-- a slot of the row of some tuples: where it is joined all its sequences in order, and else that of
-- the first tuple
abbrev pub joined_slot : List ℕ → List Row → ℕ → List Datum
joined_slot joined ts i = if has_slot joined i then flat_map (slot i) ts else first_slot i ts

abbrev pub joined_row : (width : ℕ) (joined : List ℕ) → List Row → Row
joined_row width joined ts = map (joined_slot joined ts) (range_with_len 0 width)

-- the value of a key variable
abbrev pub key_value : Option Datum → List Datum
key_value None = []
key_value (Some v) = v ∷ []

-- a row with the keys in their slots
abbrev pub with_keys : (keys : List ℕ) → KeyList → Row → Row
with_keys [] ks row = row
with_keys (i ∷ keys) [] row = row
with_keys (i ∷ keys) (k ∷ ks) row = with_keys keys ks (slice_set row i (key_value k))

-- the row of the tuples that have these keys
abbrev pub group_row : (width : ℕ) (keys joined : List ℕ) → KeyList × List Row → Row
group_row width keys joined g = with_keys keys g.0 (joined_row width joined g.1)

-- a row for each group, with the keys of its first tuple
abbrev pub group_rows : (width : ℕ) (keys joined : List ℕ) → List Keyed → List Row
group_rows width keys joined X = map (group_row width keys joined) (groups same_lists X)
