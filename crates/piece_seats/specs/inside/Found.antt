-- Whether there are items.
use Rattle.std.specs.Prelude.{Bool, true, false, List, [], ◌∷◌}
use Rattle.item_tree.specs.Datum.{Datum}

abbrev pub has_some : List Datum → Bool
has_some [] = false
has_some (v ∷ vs) = true
