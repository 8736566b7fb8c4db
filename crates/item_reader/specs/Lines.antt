-- The lines of an input, in the manner of JSON Lines.
use Rattle.std.specs.Prelude.{ℕ, ◌+◌, ◌==◌, nat_eq, not, List, [], ◌∷◌, length, drop, filter, if◌then◌else◌}
use Rattle.std.specs.List.{slice_split, starts_with}
use Rattle.json_text.specs.Line.{is_blank}

-- a line, and the offset of its first byte in the input
pub record Line : Type 0 where
  pub at : ℕ
  pub bytes : List ℕ

-- what stands between the LFs, one more than there are LFs
abbrev pub cut : List ℕ → List (List ℕ)
cut input = slice_split (λ b. b == 10) input

-- the lines with their offsets, the first of which stands at this one; an LF stands between two
abbrev pub placed : ℕ → List (List ℕ) → List Line
placed offset [] = []
placed offset (l ∷ ls) = record { at = offset; bytes = l } ∷ placed (offset + length l + 1) ls

-- the byte order mark of UTF-8
abbrev pub mark : List ℕ
mark = 239 ∷ 187 ∷ 191 ∷ []

abbrev pub without_mark : List ℕ → List ℕ
without_mark bytes = if starts_with nat_eq bytes mark then drop 3 bytes else bytes

-- a byte order mark is no part of the first line, whose offset stays
abbrev pub unmarked : List Line → List Line
unmarked [] = []
unmarked (l ∷ ls) = record l { bytes = without_mark l.bytes } ∷ ls

-- the lines of an input that are not blank
abbrev pub lines : List ℕ → List Line
lines input = filter (λ l. not (is_blank l.bytes)) (unmarked (placed 0 (cut input)))
