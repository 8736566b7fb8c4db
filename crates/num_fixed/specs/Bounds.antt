-- The bounds of numbers.
use Rattle.std.specs.Prelude.{ℕ, ◌^◌, ℤ, pos, neg_ℤ, ◌<ℤ◌}
use Rattle.num_fixed.specs.declared.number.Kind.{Kind}
use Rattle.num_fixed.specs.declared.number.Kind.TheVariants.{Whole, Units}
use Rattle.num_fixed.specs.declared.number.Number.{Number}
use Rattle.num_fixed.specs.declared.number.Number.TheVariants.{Int, Dec}

-- what numbers of a kind are below in size
abbrev pub bound : Kind → ℕ
bound Whole = 10 ^ 20
bound Units = 10 ^ 26

abbrev pub InBounds : Kind → ℤ → Type 0
InBounds kind n = (neg_ℤ (pos (bound kind)) <ℤ n) × (n <ℤ pos (bound kind))

abbrev pub NumberInBounds : Number → Type 0
NumberInBounds (Int n) = InBounds Whole n
NumberInBounds (Dec m) = InBounds Units m

-- every number with this property is out of bounds
abbrev pub IsOver : Kind → (ℤ → Type 0) → Type 0
IsOver kind P = (m : ℤ) → P m → ¬ InBounds kind m
