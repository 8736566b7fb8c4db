-- How the bytes of a string are printed.
use Rattle.std.specs.Prelude.{ℕ, Bool, not, nat_lt, List, [], ◌∷◌, ◌++◌, if◌then◌else◌}
use Rattle.item_tree.specs.JsonString.{is_raw}
use Rattle.item_tree.specs.ItemText.{character_text}

-- a byte below 128 is a character, and the bytes of a longer one stand for themselves
abbrev pub byte_text : ℕ → List ℕ
byte_text b = if nat_lt b 128 then character_text b else b ∷ []

abbrev pub bytes_text : List ℕ → List ℕ
bytes_text [] = []
bytes_text (b ∷ bs) = byte_text b ++ bytes_text bs

-- the bytes of a string between its quotes
abbrev pub quoted_text : List ℕ → List ℕ
quoted_text bs = 34 ∷ bytes_text bs ++ 34 ∷ []

-- a byte whose text is an escape
abbrev pub is_escaped : ℕ → Bool
is_escaped b = not (is_raw b)
