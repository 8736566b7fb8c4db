-- Groups of the code as plain values.
use Rattle.std.specs.Prelude.{◌≡◌, ℕ, zero, suc, List, [], ◌∷◌, length, map}
use Rattle.tuple_rows.specs.Tuples.{Row, sequences}
use Rattle.tuple_rows.specs.Keys.{KeyList, Keyed, key_list}
use Rattle.group_table.specs.declared.group.Group.{Group}
use Rattle.group_table.specs.Groups.{with_keys}
use Rattle.group_table.specs.inside.Joins.{join_rows}

abbrev pub entry_of : Group → Keyed
entry_of g = (key_list g.keys, sequences g.row)

abbrev pub keyed_list : List Group → List Keyed
keyed_list gs = map entry_of gs

-- a row with the keys in their slots
abbrev pub finished_row : List ℕ → Keyed → Row
finished_row keys g = with_keys keys g.0 g.1

-- the keys of a group, and the width of its row
abbrev pub shapes : List Keyed → List (KeyList × ℕ)
shapes gs = map (λ g. (g.0, length g.1)) gs

-- the row at this position is joined with a tuple
abbrev pub joined_at : List ℕ → ℕ → Row → List Keyed → List Keyed
joined_at joined at t [] = []
joined_at joined zero t (g ∷ gs) = (g.0, join_rows joined g.1 t) ∷ gs
joined_at joined (suc at) t (g ∷ gs) = g ∷ joined_at joined at t gs

abbrev pub RowsAreWide : ℕ → List Keyed → Type 0
RowsAreWide width [] = Unit {0}
RowsAreWide width (g ∷ gs) = (length g.1 ≡ width) × RowsAreWide width gs
