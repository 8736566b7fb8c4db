-- Items as they are printed.
use Rattle.std.specs.Prelude.{◌≡◌, ℕ, List, [], ◌∷◌, ◌++◌, length}
use Rattle.item_tree.specs.Datum.{Datum}
use Rattle.item_tree.specs.ItemText.{item_text}

-- the text of each item on a line of its own
abbrev pub text_lines : List Datum → List ℕ
text_lines [] = []
text_lines (x ∷ xs) = item_text x ++ 10 ∷ text_lines xs

-- these bytes are what is printed of so many items
pub record IsTextOf (items : List Datum) (bytes : List ℕ) (count : ℕ) : Type 0 where
  pub text : bytes ≡ text_lines items
  pub many : count ≡ length items
