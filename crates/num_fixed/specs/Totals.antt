-- Exact totals.
use Rattle.std.specs.Prelude.{◌≡◌, ◌≢◌, ℕ, ◌+◌, ◌*◌, ◌-◌, ◌^◌, ◌%◌, ◌<◌, ◌≤◌, ℤ, pos, ◌+ℤ◌, Bool, true, false, ◌&&◌, List, [], ◌∷◌, unsigned_abs}
use Rattle.num_fixed.specs.Nearest.{IsNearest}
use Rattle.num_fixed.specs.Rounding.{units_of}
use Rattle.num_fixed.specs.declared.number.Kind.{Kind}
use Rattle.num_fixed.specs.declared.number.Kind.TheVariants.{Whole, Units}
use Rattle.num_fixed.specs.declared.number.Number.{Number}
use Rattle.num_fixed.specs.declared.number.Number.TheVariants.{Int, Dec}

-- a number in units, as they are summed and compared
abbrev pub number_units : Number → ℤ
number_units (Int n) = units_of n
number_units (Dec m) = m

abbrev pub is_int : Number → Bool
is_int (Int n) = true
is_int (Dec m) = false

-- what was added: its exact sum in units, its number, and whether all were integers
pub record Tally : Type 0 where
  pub units : ℤ
  pub count : ℕ
  pub whole : Bool

abbrev pub nothing : Tally
nothing = record { units = pos 0; count = 0; whole = true }

abbrev pub one : Number → Tally
one x = record { units = number_units x; count = 1; whole = is_int x }

abbrev pub joined : Tally → Tally → Tally
joined s t =
    record { units = s.units +ℤ t.units; count = s.count + t.count; whole = s.whole && t.whole }

abbrev pub tally_of : List Number → Tally
tally_of [] = nothing
tally_of (x ∷ xs) = joined (one x) (tally_of xs)

-- what every total keeps: fewer than 2^40 numbers in bounds, and a whole sum of integers
pub record IsKept (t : Tally) : Type 0 where
  pub bounded : unsigned_abs t.units ≤ t.count * (10 ^ 26 - 1)
  pub few : t.count < 2 ^ 40
  pub ones : t.whole ≡ true → unsigned_abs t.units % 1000000 ≡ 0

-- m is the sum, counted in ones or in units
abbrev pub IsSum : Kind → Tally → ℤ → Type 0
IsSum Whole t m = units_of m ≡ t.units
IsSum Units t m = m ≡ t.units

-- m is the number of units nearest to the sum of some numbers divided by how many they are
abbrev pub IsMean : Tally → ℤ → Type 0
IsMean t m = (t.count ≢ 0) × IsNearest t.units (pos t.count) m
