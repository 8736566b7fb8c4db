-- Where keys of each value stand.
use Rattle.std.specs.Prelude.{◌≡◌, ℕ, zero, suc, Bool, List, [], ◌∷◌, ◌++◌, Some, None, Vec, length, map, if◌then◌else◌}
use Rattle.std.specs.declared.alloc.Global.{Global}
use Rattle.item_tree.specs.declared.key.Key.{Key}
use Rattle.item_tree.specs.Datum.{Datum}
use Rattle.item_tree.specs.Compare.{atom, order_if, compare_atoms, is_equal}
use Rattle.item_tree.specs.Keys.{atom_of}
use Rattle.tuple_rows.specs.Keys.{KeyList}
use Rattle.eq_join.specs.declared.places.Places.{Places}

-- whether a value is what this key stands for
abbrev pub is_of : Datum → Key → Bool
is_of v k = is_equal (order_if (atom v) (Some (atom_of k)))

-- the positions, of which the first key's is this one, of the keys that are equal to a value
abbrev pub matches : Datum → ℕ → KeyList → List ℕ
matches v at [] = []
matches v at (None ∷ ls) = matches v (suc at) ls
matches v at (Some w ∷ ls) =
    if is_equal (compare_atoms v w) then at ∷ matches v (suc at) ls else matches v (suc at) ls

-- the list that stands with the first key which passes the test
abbrev pub found : (Key → Bool) → List Key → List (List ℕ) → List ℕ
found test [] lists = []
found test (k ∷ ks) [] = []
found test (k ∷ ks) (js ∷ lists) = if test k then js else found test ks lists

-- the position goes behind those of the first key which passes the test; where there is none, a
-- list for a new key goes last
abbrev pub with_position : (Key → Bool) → ℕ → List Key → List (List ℕ) → List (List ℕ)
with_position test at [] lists = lists ++ (at ∷ []) ∷ []
with_position test at (k ∷ ks) [] = []
with_position test at (k ∷ ks) (js ∷ lists) =
    if test k then (js ++ at ∷ []) ∷ lists else js ∷ with_position test at ks lists

-- the same at this place
abbrev pub put_position : ℕ → ℕ → List (List ℕ) → List (List ℕ)
put_position place at [] = (at ∷ []) ∷ []
put_position zero at (js ∷ lists) = (js ++ at ∷ []) ∷ lists
put_position (suc place) at (js ∷ lists) = js ∷ put_position place at lists

abbrev pub position_lists : List (Vec ℕ Global) → List (List ℕ)
position_lists vs = map (λ v. v.items) vs

-- each key has a list, and for each value these are the positions of the keys that are equal to it
pub record ArePlaces (s : Places) (ls : KeyList) : Type 0 where
  pub paired : length s.positions.items ≡ length s.keys.keys
  pub found : (v : Datum) → found (is_of v) s.keys.keys (position_lists s.positions.items)
      ≡ matches v 0 ls
