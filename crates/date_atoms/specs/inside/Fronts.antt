-- What stands at the front of some bytes, and what is behind it.
use Rattle.std.specs.Prelude.{◌≡◌, ℕ, ◌^◌, ◌<◌, ◌==◌, ◌||◌, Bool, List, ◌∷◌, ◌++◌}
use Rattle.std.specs.Char.{is_ascii_digit}
use Rattle.item_tree.specs.Digits.{last_digits}
use Rattle.item_tree.specs.Dates.{clock_text}
use Rattle.date_atoms.specs.Texts.{Fraction, IsFraction, fraction_text, Offset, IsOffset, offset_text}

-- so many digits, which are those of n
abbrev pub IsNumber : ℕ → List ℕ → ℕ → Type 0
IsNumber count bytes n = (n < 10 ^ count) × (bytes ≡ last_digits count n)

abbrev pub IsNumberFront : ℕ → List ℕ → ℕ → List ℕ → Type 0
IsNumberFront count bytes n rest = (n < 10 ^ count) × (bytes ≡ last_digits count n ++ rest)

-- three numbers with a mark before the second and the third, which have two digits
abbrev pub triple_text : ℕ → ℕ → ℕ → ℕ → ℕ → List ℕ → List ℕ
triple_text width mark a b c rest =
    last_digits width a ++ (mark ∷ (last_digits 2 b ++ (mark ∷ (last_digits 2 c ++ rest))))

abbrev pub IsTriple : ℕ → ℕ → List ℕ → ℕ → ℕ → ℕ → List ℕ → Type 0
IsTriple width mark bytes a b c rest =
    (a < 10 ^ width) × (b < 100) × (c < 100) × (bytes ≡ triple_text width mark a b c rest)

-- seconds since midnight
abbrev pub IsClockFront : List ℕ → ℕ → List ℕ → Type 0
IsClockFront bytes s rest = (s < 86400) × (bytes ≡ clock_text s ++ rest)

-- a clock behind a `T`
abbrev pub IsTimeFront : List ℕ → ℕ → List ℕ → Type 0
IsTimeFront bytes s rest = (s < 86400) × (bytes ≡ 84 ∷ (clock_text s ++ rest))

abbrev pub IsFractionText : Fraction → List ℕ → Type 0
IsFractionText f bytes = IsFraction f × (bytes ≡ fraction_text f)

abbrev pub IsOffsetText : Offset → List ℕ → Type 0
IsOffsetText o bytes = IsOffset o × (bytes ≡ offset_text o)

-- a fraction and an offset
abbrev pub IsTail : Fraction → Offset → List ℕ → Type 0
IsTail f o bytes = IsFraction f × IsOffset o × (bytes ≡ fraction_text f ++ offset_text o)

-- a point or a digit
abbrev pub is_fraction_byte : ℕ → Bool
is_fraction_byte b = b == 46 || is_ascii_digit b
