-- What key lists are compared by.
use Rattle.std.specs.Prelude.{◌≡◌, List, [], ◌∷◌, Option, Some, None}
use Rattle.item_tree.specs.declared.key.Key.{Key}
use Rattle.item_tree.specs.Datum.{Datum}
use Rattle.item_tree.specs.Compare.{atom}
use Rattle.item_tree.specs.Keys.{atom_of}
use Rattle.tuple_rows.specs.Keys.{KeyList}
use Rattle.group_table.specs.declared.group_key.GroupKey.{GroupKey}

abbrev pub IsPartFor : Option Key → Option Datum → Type 0
IsPartFor None None = Unit {0}
IsPartFor None (Some v) = ⊥
IsPartFor (Some k) None = ⊥
IsPartFor (Some k) (Some v) = atom v ≡ Some (atom_of k)

abbrev pub AreParts : List (Option Key) → KeyList → Type 0
AreParts [] [] = Unit {0}
AreParts [] (k ∷ ks) = ⊥
AreParts (p ∷ ps) [] = ⊥
AreParts (p ∷ ps) (k ∷ ks) = IsPartFor p k × AreParts ps ks

-- the key lists of one table are as long as each other
abbrev pub IsKeyFor : GroupKey → KeyList → Type 0
IsKeyFor key [] = (key.first ≡ None) × (key.others.items ≡ [])
IsKeyFor key (k ∷ ks) = IsPartFor key.first k × AreParts key.others.items ks
