-- Rows joined slot by slot, and tables of them.
use Rattle.std.specs.Prelude.{◌≡◌, ℕ, List, [], ◌∷◌, ◌++◌, length, if◌then◌else◌}
use Rattle.std.specs.List.{slice_set}
use Rattle.tuple_rows.specs.Tuples.{Row}
use Rattle.tuple_rows.specs.Keys.{Keyed, AllKeys}
use Rattle.group_table.specs.Groups.{same_lists, slot}
use Rattle.group_table.specs.Grouping.{AllBelow}

-- what stands in these slots of the second row is moved behind what stands there in the first
abbrev pub join_rows : List ℕ → Row → Row → Row
join_rows [] xs ys = xs
join_rows (i ∷ joined) xs ys =
    join_rows joined (slice_set xs i (slot i xs ++ slot i ys)) (slice_set ys i [])

-- one row more, which is joined to that of its group
abbrev pub put : List ℕ → List Keyed → Keyed → List Keyed
put joined [] p = p ∷ []
put joined (g ∷ gs) p =
    if same_lists p.0 g.0 then (g.0, join_rows joined g.1 p.1) ∷ gs else g ∷ put joined gs p

abbrev pub put_all : List ℕ → List Keyed → List Keyed → List Keyed
put_all joined gs [] = gs
put_all joined gs (p ∷ ps) = put_all joined (put joined gs p) ps

-- a group has so many keys, and a row of the width
abbrev pub IsGroup : (width count : ℕ) → Keyed → Type 0
IsGroup width count g = (length g.0 ≡ count) × AllKeys g.0 × (length g.1 ≡ width)

abbrev pub AllGroups : (width count : ℕ) → List Keyed → Type 0
AllGroups width count [] = Unit {0}
AllGroups width count (g ∷ gs) = IsGroup width count g × AllGroups width count gs

pub record IsKept (width : ℕ) (keys joined : List ℕ) (groups : List Keyed) : Type 0 where
  pub keys_below : AllBelow width keys
  pub joined_below : AllBelow width joined
  pub groups_fit : AllGroups width (length keys) groups
