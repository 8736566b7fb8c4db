-- Products, quotients and remainders.
use Rattle.std.specs.Prelude.{◌≡◌, ◌≢◌, ◌<◌, ℤ, pos, ◌+ℤ◌, ◌*ℤ◌, ◌≤ℤ◌, unsigned_abs}
use Rattle.num_fixed.specs.Nearest.{IsNearest}
use Rattle.num_fixed.specs.declared.number.Kind.{Kind}
use Rattle.num_fixed.specs.declared.number.Kind.TheVariants.{Whole, Units}
use Rattle.num_fixed.specs.declared.number.NumFault.{NumFault}
use Rattle.num_fixed.specs.declared.number.NumFault.TheVariants.{ZeroDivisor, Overflow}

-- m is the product of whole numbers, or the unit nearest to the product of decimals
abbrev pub IsProduct : Kind → ℤ → ℤ → ℤ → Type 0
IsProduct Whole a b m = m ≡ a *ℤ b
IsProduct Units a b m = IsNearest (a *ℤ b) (pos 1000000) m

-- why there is no quotient by b: b is 0, or it isn't and the quotient is out of bounds
abbrev pub IsFault : ℤ → Type 0 → NumFault → Type 0
IsFault b Over ZeroDivisor = b ≡ pos 0
IsFault b Over Overflow = (b ≢ pos 0) × Over

-- a is q times b and a rest r, which is smaller than b and has no sign but that of a
pub record IsDivided (a b q r : ℤ) : Type 0 where
  pub whole : a ≡ q *ℤ b +ℤ r
  pub small : unsigned_abs r < unsigned_abs b
  pub not_below : pos 0 ≤ℤ a → pos 0 ≤ℤ r
  pub not_above : a ≤ℤ pos 0 → r ≤ℤ pos 0

-- q is a / b without its part behind the point
abbrev pub IsTruncated : ℤ → ℤ → ℤ → Type 0
IsTruncated a b q = (r : ℤ) × IsDivided a b q r

-- r is what is left of a
abbrev pub IsRemainder : ℤ → ℤ → ℤ → Type 0
IsRemainder a b r = (q : ℤ) × IsDivided a b q r
