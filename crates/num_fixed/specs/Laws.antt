-- What the laws say.
use Rattle.std.specs.Prelude.{◌≡◌, ◌≤◌, ◌↔◌, ◌+◌, ℤ, List, ◌++◌, length, ℕ, [], true, false}
use Rattle.num_fixed.specs.Bounds.{IsOver}
use Rattle.num_fixed.specs.Fronts.{has_number, number_end}
use Rattle.num_fixed.specs.Numeral.{Numeral, IsNumeral}
use Rattle.num_fixed.specs.Totals.{Tally, joined, tally_of, IsSum}
use Rattle.num_fixed.specs.Values.{in_bounds}
use Rattle.num_fixed.specs.declared.number.Kind.{Kind}
use Rattle.num_fixed.specs.declared.number.Kind.TheVariants.{Whole}
use Rattle.num_fixed.specs.declared.number.Number.{Number}

-- every number with the property is out of bounds exactly where this one is
abbrev pub ToldBy : (ℤ → Type 0) → ℤ → Type 0
ToldBy P m = (kind : Kind) → IsOver kind P ↔ (in_bounds kind m ≡ false)

-- some number has the property
abbrev pub IsMet : (ℤ → Type 0) → Type 0
IsMet P = (m : ℤ) × P m

-- no two numbers have the property
abbrev pub IsSingle : (ℤ → Type 0) → Type 0
IsSingle P = (l : ℤ) → (m : ℤ) → P l → P m → l ≡ m

-- the total of all these numbers is both totals joined
abbrev pub IsJoined : List Number → List Number → Type 0
IsJoined xs ys = tally_of (xs ++ ys) ≡ joined (tally_of xs) (tally_of ys)

-- the sum is the units of a whole number
abbrev pub IsCounted : Tally → Type 0
IsCounted t = IsMet (IsSum Whole t)

-- the whole text is one numeral at most
abbrev pub IsOneNumeral : List ℕ → Type 0
IsOneNumeral l = (m : Numeral) → (n : Numeral) → IsNumeral m l [] → IsNumeral n l [] → m ≡ n

-- a numeral is the same before the rest r
abbrev pub StaysBefore : Numeral → List ℕ → List ℕ → Type 0
StaysBefore n w r = IsNumeral n w [] → IsNumeral n (w ++ r) r

-- the bytes before the rest r are themselves the numeral
abbrev pub IsCutFrom : Numeral → List ℕ → List ℕ → Type 0
IsCutFrom n l r = (w : List ℕ) × (l ≡ w ++ r) × IsNumeral n w []

-- the longest number at the front leaves no more than the rest r
abbrev pub IsReached : List ℕ → List ℕ → Type 0
IsReached l r = (has_number l ≡ true) × (length l ≤ length r + number_end l)
