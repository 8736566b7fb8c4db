-- Where the groups of key lists stand.
use Rattle.std.specs.Prelude.{ℕ, suc, List, [], ◌∷◌, if◌then◌else◌}
use Rattle.tuple_rows.specs.Keys.{KeyList, Keyed}
use Rattle.group_table.specs.declared.group_key.GroupKey.{GroupKey}
use Rattle.group_table.specs.Groups.{same_lists}
use Rattle.group_table.specs.inside.KeyParts.{IsKeyFor}

-- the position of the first group with these keys, or else the one behind the last
abbrev pub place_among : KeyList → List Keyed → ℕ
place_among ks [] = 0
place_among ks (g ∷ gs) = if same_lists ks g.0 then 0 else suc (place_among ks gs)

-- what the keys of each group are compared by, in the order of the groups
abbrev pub ArePlaces : List GroupKey → List Keyed → Type 0
ArePlaces [] [] = Unit {0}
ArePlaces [] (g ∷ gs) = ⊥
ArePlaces (k ∷ ks) [] = ⊥
ArePlaces (k ∷ ks) (g ∷ gs) = IsKeyFor k g.0 × ArePlaces ks gs
