-- How `group by` goes by the positions of tuples: the table of groups is told them in the place of
-- the tuples.
use Rattle.std.specs.Prelude.{ℕ, zero, suc, ◌+◌, ℤ, pos, negsuc, Bool, List, [], ◌∷◌, map, if◌then◌else◌}
use Rattle.std.specs.List.{flat_map, slice_index_or, slice_set}
use Rattle.item_tree.specs.Datum.{Datum, integer}
use Rattle.tuple_rows.specs.Tuples.{Row}
use Rattle.tuple_rows.specs.Keys.{Keyed}
use Rattle.group_table.specs.Groups.{slot, first_slot}

-- a position as an item, and back
abbrev pub natural : ℤ → ℕ
natural (pos n) = n
natural (negsuc n) = 0

abbrev pub position : Datum → ℕ
position (integer n) = natural n
position _ = 0

-- so many numbers
abbrev pub numbers_from : ℕ → ℕ → List ℕ
numbers_from n zero = []
numbers_from n (suc count) = n ∷ numbers_from (n + 1) count

-- nothing in so many slots
abbrev pub blanks : ℕ → Row
blanks zero = []
blanks (suc n) = [] ∷ blanks n

-- what the table is told of a tuple: its position, and slots for so many keys
abbrev pub position_row : ℕ → ℕ → Row
position_row count n = (integer (pos n) ∷ []) ∷ blanks count

-- tuples with their keys, told so
abbrev pub numbered : ℕ → ℕ → List Keyed → List Keyed
numbered count n [] = []
numbered count n (p ∷ X) = (p.0, position_row count n) ∷ numbered count (n + 1) X

abbrev pub tuple_at : List Row → ℕ → Row
tuple_at tuples n = slice_index_or tuples n []

-- a row with these values in these slots
abbrev pub with_values : List ℕ → List (List Datum) → Row → Row
with_values [] vs row = row
with_values (i ∷ slots) [] row = row
with_values (i ∷ slots) (v ∷ vs) row = with_values slots vs (slice_set row i v)

-- the same value by value: one goes into the first slot that is left, if there is one
abbrev pub first_written : List ℕ → List Datum → Row → Row
first_written [] v row = row
first_written (i ∷ slots) v row = slice_set row i v

abbrev pub behind : {A : Type 0} → List A → List A
behind [] = []
behind (x ∷ xs) = xs

abbrev pub values_written : List ℕ → List (List Datum) → Row → Row
values_written slots [] row = row
values_written slots (v ∷ vs) row = values_written (behind slots) vs (first_written slots v row)

-- the slot of some tuples, joined or that of the first one
abbrev pub slot_of_all : Bool → ℕ → List Row → List Datum
slot_of_all joined i ts = if joined then flat_map (slot i) ts else first_slot i ts

-- the slots from one on, where it is known of each whether it is joined
abbrev pub slots_from : ℕ → List Bool → List Row → Row
slots_from i [] ts = []
slots_from i (joined ∷ flags) ts = slot_of_all joined i ts ∷ slots_from (i + 1) flags ts

-- the row of a group, from what the table tells of it
abbrev pub read_group : List Bool → List ℕ → List Row → Row → Row
read_group flags keys tuples [] = []
read_group flags keys tuples (places ∷ values) =
    with_values keys values (slots_from 0 flags (map (λ x. tuple_at tuples (position x)) places))
