-- The longest number at the front of a text, told by where each of its parts ends: a minus or none;
-- digits; a point and digits, or none; and an exponent, or none. A digit stands before the
-- exponent.
use Rattle.std.specs.Prelude.{◌≡◌, ◌<◌, ℕ, ◌+◌, ◌==◌, ◌||◌, ◌&&◌, nat_lt, Bool, false, not, pos, if◌then◌else◌, List, [], ◌∷◌, length, take, drop, Option, Some, None}
use Rattle.num_fixed.specs.Numeral.{Sign, none, plus, minus, Numeral, IsNumeral, IsSaid, number_of}
use Rattle.num_fixed.specs.Scan.{behind_sign, digits_len}
use Rattle.num_fixed.specs.declared.front.NumberFront.{NumberFront}
use Rattle.num_fixed.specs.declared.number.Number.TheVariants.{Int}

-- ---- how long each part is at the front of a text

abbrev pub minus_len : List ℕ → ℕ
minus_len [] = 0
minus_len (b ∷ l) = if b == 45 then 1 else 0

abbrev pub sign_len : List ℕ → ℕ
sign_len [] = 0
sign_len (b ∷ l) = if b == 43 || b == 45 then 1 else 0

-- a point and a digit or more
unfoldable pub fraction_len : List ℕ → ℕ
fraction_len [] = 0
fraction_len (b ∷ l) = if b == 46 && nat_lt 0 (digits_len l) then 1 + digits_len l else 0

-- the letter e of either case, a sign or none, and a digit or more
unfoldable pub exponent_len : List ℕ → ℕ
exponent_len [] = 0
exponent_len (b ∷ l) =
    if (b == 101 || b == 69) && nat_lt 0 (digits_len (drop (sign_len l) l))
    then 1 + sign_len l + digits_len (drop (sign_len l) l) else 0

-- ---- where each part ends

unfoldable pub whole_end : List ℕ → ℕ
whole_end l = minus_len l + digits_len (drop (minus_len l) l)

unfoldable pub fraction_end : List ℕ → ℕ
fraction_end l = whole_end l + fraction_len (drop (whole_end l) l)

unfoldable pub number_end : List ℕ → ℕ
number_end l = fraction_end l + exponent_len (drop (fraction_end l) l)

-- a digit stands there
abbrev pub has_number : List ℕ → Bool
has_number l = nat_lt (minus_len l) (fraction_end l)

-- ---- the numeral

abbrev pub minus_first : List ℕ → Sign
minus_first [] = none
minus_first (b ∷ l) = if b == 45 then minus else none

abbrev pub sign_first : List ℕ → Sign
sign_first [] = none
sign_first (b ∷ l) = if b == 43 then plus else if b == 45 then minus else none

-- the digits behind the point
abbrev pub fraction_of : List ℕ → Option (List ℕ)
fraction_of [] = None
fraction_of (b ∷ ds) = Some ds

-- the sign and the digits behind the letter
abbrev pub exponent_of : List ℕ → Option (Sign × List ℕ)
exponent_of [] = None
exponent_of (b ∷ l) = Some (sign_first l, behind_sign l)

-- each part before its end
abbrev pub whole_at : List ℕ → List ℕ
whole_at l = let u = drop (minus_len l) l in take (digits_len u) u

abbrev pub fraction_at : List ℕ → List ℕ
fraction_at l = let v = drop (whole_end l) l in take (fraction_len v) v

abbrev pub exponent_at : List ℕ → List ℕ
exponent_at l = let x = drop (fraction_end l) l in take (exponent_len x) x

unfoldable pub numeral_front : List ℕ → Numeral
numeral_front l = record {
  sign = minus_first l;
  int = whole_at l;
  frac = fraction_of (fraction_at l);
  exp = exponent_of (exponent_at l);
}

-- the bytes behind it
abbrev pub behind_front : List ℕ → List ℕ
behind_front l = drop (number_end l) l

-- the places that a front tells of
pub record AreEnds (l : List ℕ) (front : NumberFront) : Type 0 where
  pub whole : front.whole_end ≡ whole_end l
  pub fraction : front.fraction_end ≡ fraction_end l
  pub all : front.end ≡ number_end l

-- ---- a short whole number without a sign

-- a point or the letter e of either case stands there
abbrev pub may_go_on : List ℕ → Bool
may_go_on [] = false
may_go_on (b ∷ l) = b == 46 || b == 101 || b == 69

-- the number that 1 to 18 digits at the front spell, and how many they are, where nothing behind
-- them may belong to it
unfoldable pub short_whole : List ℕ → Option (ℕ × ℕ)
short_whole l =
    let d = digits_len l in
    if nat_lt 0 d && nat_lt d 19 && not (may_go_on (drop d l))
    then Some (number_of 0 (take d l), d) else None

-- this number of so many bytes is the whole number at the front
abbrev pub IsWholeFront : List ℕ → ℕ × ℕ → Type 0
IsWholeFront l p =
    (p.1 ≡ whole_end l) × (p.1 ≡ number_end l) × IsSaid (numeral_front l) (Int (pos p.0))

-- ---- what such a number is

abbrev pub IsMinusOrNone : Sign → Type 0
IsMinusOrNone none = Unit {0}
IsMinusOrNone plus = ⊥
IsMinusOrNone minus = Unit {0}

-- a digit or more behind the point, if there is one
abbrev pub HasDigits : Option (List ℕ) → Type 0
HasDigits None = Unit {0}
HasDigits (Some ds) = 0 < length ds

-- a numeral with neither a plus in front nor a point that no digit follows
pub record IsFront (n : Numeral) (l r : List ℕ) : Type 0 where
  pub numeral : IsNumeral n l r
  pub sign : IsMinusOrNone n.sign
  pub frac : HasDigits n.frac
