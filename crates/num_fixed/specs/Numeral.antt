-- The text of a number, by the parts and names of RFC 8259, section 6.
-- It is wider here than there: the sign may be a plus, digits may begin with zeros, and one side of
-- the point may lack digits.
use Rattle.std.specs.Prelude.{◌≡◌, ◌⊎◌, ◌<◌, ℕ, ◌+◌, ◌*◌, ◌-◌, ◌^◌, ℤ, pos, Bool, true, false, List, [], ◌∷◌, ◌++◌, length, Option, Some, None, IsSome}
use Rattle.std.specs.Char.{is_ascii_digit}
use Rattle.std.specs.List.{list_all}
use Rattle.num_fixed.specs.Bounds.{NumberInBounds}
use Rattle.num_fixed.specs.Nearest.{IsNearestUnit}
use Rattle.num_fixed.specs.Signs.{with_sign}
use Rattle.num_fixed.specs.declared.number.NumFault.{NumFault}
use Rattle.num_fixed.specs.declared.number.NumFault.TheVariants.{Overflow}
use Rattle.num_fixed.specs.declared.number.Number.{Number}
use Rattle.num_fixed.specs.declared.number.Number.TheVariants.{Int, Dec}

pub data Sign : Type 0 where
  none : Sign
  plus : Sign
  minus : Sign

-- the digits before the point; those behind it, if there is one; and the exponent's sign and
-- digits, if there is one
pub record Numeral : Type 0 where
  pub sign : Sign
  pub int : List ℕ
  pub frac : Option (List ℕ)
  pub exp : Option (Sign × List ℕ)

-- ---- how a numeral is written: each part says what the bytes l are before their rest r

abbrev pub AreDigits : List ℕ → Type 0
AreDigits ds = list_all is_ascii_digit ds ≡ true

abbrev pub IsSign : Sign → List ℕ → List ℕ → Type 0
IsSign none l r = l ≡ r
IsSign plus l r = l ≡ 43 ∷ r
IsSign minus l r = l ≡ 45 ∷ r

abbrev pub IsFrac : Option (List ℕ) → List ℕ → List ℕ → Type 0
IsFrac None l r = l ≡ r
IsFrac (Some ds) l r = AreDigits ds × (l ≡ 46 ∷ (ds ++ r))

-- the letter e of either case, and behind it a sign, if there is one, and a digit or more
abbrev pub IsExp : Option (Sign × List ℕ) → List ℕ → List ℕ → Type 0
IsExp None l r = l ≡ r
IsExp (Some e) l r =
    (m : List ℕ) × ((l ≡ 101 ∷ m) ⊎ (l ≡ 69 ∷ m))
    × IsSign e.0 m (e.1 ++ r) × AreDigits e.1 × (0 < length e.1)

abbrev pub frac_digits : Option (List ℕ) → List ℕ
frac_digits None = []
frac_digits (Some ds) = ds

-- sign, int, frac and exp, and a digit at one side of the point at least
pub record IsNumeral (n : Numeral) (l r : List ℕ) : Type 0 where
  pub behind_int : List ℕ
  pub behind_frac : List ℕ
  pub sign : IsSign n.sign l (n.int ++ behind_int)
  pub int : AreDigits n.int
  pub frac : IsFrac n.frac behind_int behind_frac
  pub exp : IsExp n.exp behind_frac r
  pub some : 0 < length (n.int ++ frac_digits n.frac)

-- the whole text is a numeral
abbrev pub IsNumberText : List ℕ → Type 0
IsNumberText t = (n : Numeral) × IsNumeral n t []

-- ---- what a numeral says

abbrev pub is_minus : Sign → Bool
is_minus none = false
is_minus plus = false
is_minus minus = true

-- the number that digits spell, behind n
abbrev pub number_of : ℕ → List ℕ → ℕ
number_of n [] = n
number_of n (b ∷ r) = number_of (n * 10 + (b - 48)) r

-- by how many powers of ten an exponent makes the number greater, and by how many smaller
abbrev pub raised_by : Bool → List ℕ → ℕ
raised_by true ds = 0
raised_by false ds = number_of 0 ds

abbrev pub lowered_by : Bool → List ℕ → ℕ
lowered_by true ds = number_of 0 ds
lowered_by false ds = 0

abbrev pub raised : Option (Sign × List ℕ) → ℕ
raised None = 0
raised (Some e) = raised_by (is_minus e.0) e.1

abbrev pub lowered : Option (Sign × List ℕ) → ℕ
lowered None = 0
lowered (Some e) = lowered_by (is_minus e.0) e.1

-- m is the nearest number of units: the digits, raised, over the power of ten by which the places
-- behind the point and the exponent lower them
abbrev pub IsUnitsOf : Bool → List ℕ → ℕ → Option (Sign × List ℕ) → ℤ → Type 0
IsUnitsOf negative ds places exp m =
    let n = with_sign negative (number_of 0 ds * 10 ^ raised exp) in
    IsNearestUnit n (pos (10 ^ (places + lowered exp))) m

abbrev pub IsDecimalOf : Bool → List ℕ → ℕ → Option (Sign × List ℕ) → Number → Type 0
IsDecimalOf negative ds places exp (Int m) = ⊥
IsDecimalOf negative ds places exp (Dec m) = IsUnitsOf negative ds places exp m

-- without point and exponent it is an integer, and else a decimal
abbrev pub Says : Numeral → Number → Type 0
Says n (Int m) =
    (n.frac ≡ None) × (n.exp ≡ None) × (m ≡ with_sign (is_minus n.sign) (number_of 0 n.int))
Says n (Dec m) =
    let ds = frac_digits n.frac in
    (IsSome n.frac ⊎ IsSome n.exp) × IsUnitsOf (is_minus n.sign) (n.int ++ ds) (length ds) n.exp m

-- it says no number in bounds
abbrev pub IsOutOfBounds : Numeral → Type 0
IsOutOfBounds n = (x : Number) → Says n x → ¬ NumberInBounds x

-- the number that it says, which is in bounds
abbrev pub IsSaid : Numeral → Number → Type 0
IsSaid n x = Says n x × NumberInBounds x

-- what is refused of a numeral that says no number in bounds
abbrev pub IsRefused : Numeral → NumFault → Type 0
IsRefused n e = (e ≡ Overflow) × IsOutOfBounds n
