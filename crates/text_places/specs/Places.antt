-- A place in a text, as it is printed.
use Rattle.std.specs.Prelude.{◌≡◌, ℕ, ◌+◌, ◌==◌, nat_lt, nat_le, Bool, not, ◌||◌, List, ◌∷◌, ◌++◌, take, take_while, reverse, count_by}
use Rattle.std.specs.Fmt.{decimal}
use Rattle.text_places.specs.declared.moving.Known.{Known}

-- in UTF-8, the first byte of a character is none of 128 to 191
abbrev pub begins_character : ℕ → Bool
begins_character b = nat_lt b 128 || nat_le 192 b

-- one more than the LFs before the place
abbrev pub line_of : List ℕ → ℕ → ℕ
line_of text place = count_by (λ b. b == 10) (take place text) + 1

-- one more than the characters from the line's start to the place
abbrev pub column_of : List ℕ → ℕ → ℕ
column_of text place =
    count_by begins_character (take_while (λ b. not (b == 10)) (reverse (take place text))) + 1

-- `LINE:COLUMN`
abbrev pub place_text : List ℕ → ℕ → List ℕ
place_text text place = decimal (line_of text place) ++ 58 ∷ decimal (column_of text place)

-- the byte of the offset stands there
pub record IsPlaceOf (text : List ℕ) (k : Known) : Type 0 where
  pub line : k.at.line ≡ line_of text k.offset
  pub column : k.at.column ≡ column_of text k.offset
