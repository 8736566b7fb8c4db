-- How the code rounds a number by its digits. Nothing here is part of what a number says.
use Rattle.std.specs.Prelude.{◌≡◌, ◌<◌, ◌≤◌, ℕ, ◌+◌, ◌*◌, ◌^◌, ◌%◌, Bool, List, ◌++◌, length, ◌==◌, if◌then◌else◌, Option, MatchOption, IfSome, IfNone}
use Rattle.num_fixed.specs.Nearest.{IsNearestNatural}
use Rattle.num_fixed.specs.Numeral.{number_of, raised_by, lowered_by}
use Rattle.num_fixed.specs.declared.digits.Rest.{Rest}
use Rattle.num_fixed.specs.declared.digits.Rest.TheVariants.{Above, Half, Below}

-- a rest n of d against half of it
abbrev pub Against : Rest → ℕ → ℕ → Type 0
Against Above n d = d < 2 * n
Against Half n d = 2 * n ≡ d
Against Below n d = 2 * n < d

-- the digits behind the place that is kept, against half of one there
abbrev pub IsRest : List ℕ → Rest → Type 0
IsRest ds rest = Against rest (number_of 0 ds) (10 ^ length ds)

-- the number that was kept, or the next, by what was left
abbrev pub rounded_by : Rest → ℕ → ℕ
rounded_by Above kept = kept + 1
rounded_by Half kept = if kept % 2 == 1 then kept + 1 else kept
rounded_by Below kept = kept

-- what is nearest is out of the bounds of units
abbrev pub IsLarge : ℕ → ℕ → Type 0
IsLarge n d = (m : ℕ) → IsNearestNatural n d m → 10 ^ 26 ≤ m

-- the number itself, where it is in the bounds of units
abbrev pub IsWithin : ℕ → Option ℕ → Type 0
IsWithin n r = MatchOption r (10 ^ 26 ≤ n) (λ m. (m ≡ n) × (m < 10 ^ 26))

-- what is found is nearest to n / d, and in the bounds of units
abbrev pub IsFound : ℕ → ℕ → Option ℕ → Type 0
IsFound n d r = IfSome r (λ m. IsNearestNatural n d m × (m < 10 ^ 26))

-- where nothing is found, what is nearest is out of bounds
abbrev pub IsMissed : ℕ → ℕ → Option ℕ → Type 0
IsMissed n d r = IfNone r (IsLarge n d)

-- the same of what digits spell, when those that are left stand behind the point
abbrev pub IsFoundBefore : List ℕ → List ℕ → Option ℕ → Type 0
IsFoundBefore kept left r = IsFound (number_of 0 (kept ++ left)) (10 ^ length left) r

abbrev pub IsMissedBefore : List ℕ → List ℕ → Option ℕ → Type 0
IsMissedBefore kept left r = IsMissed (number_of 0 (kept ++ left)) (10 ^ length left) r

-- the same of digits before and behind the point, raised and then lowered by powers of ten
abbrev pub IsFoundAt : List ℕ → List ℕ → ℕ → ℕ → Option ℕ → Type 0
IsFoundAt whole fraction up down r =
    IsFound (number_of 0 (whole ++ fraction) * 10 ^ up) (10 ^ down) r

abbrev pub IsMissedAt : List ℕ → List ℕ → ℕ → ℕ → Option ℕ → Type 0
IsMissedAt whole fraction up down r =
    IsMissed (number_of 0 (whole ++ fraction) * 10 ^ up) (10 ^ down) r

-- in units: raised by the six places that units have and by an exponent, and lowered by the places
-- behind the point and by an exponent
abbrev pub IsSize : List ℕ → List ℕ → Bool → List ℕ → Option ℕ → Type 0
IsSize whole fraction small e r =
    IsFoundAt whole fraction (6 + raised_by small e) (length fraction + lowered_by small e) r

abbrev pub IsNoSize : List ℕ → List ℕ → Bool → List ℕ → Option ℕ → Type 0
IsNoSize whole fraction small e r =
    IsMissedAt whole fraction (6 + raised_by small e) (length fraction + lowered_by small e) r
