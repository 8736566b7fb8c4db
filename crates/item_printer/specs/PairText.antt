-- A pair of an object, without the comma before it.
use Rattle.std.specs.Prelude.{ℕ, List, ◌∷◌, ◌++◌}
use Rattle.item_tree.specs.Datum.{Datum}
use Rattle.item_tree.specs.ItemText.{item_text, string_text}

abbrev pub pair_text : List ℕ → Datum → List ℕ
pair_text k v = string_text k ++ 58 ∷ item_text v
