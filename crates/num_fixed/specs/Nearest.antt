-- The whole number nearest to a ratio.
use Rattle.std.specs.Prelude.{◌≡◌, ℕ, ◌+◌, ◌*◌, ◌%◌, ◌≤◌, ℤ, pos, ◌-ℤ◌, ◌*ℤ◌, unsigned_abs}

-- m is no farther than a half from n / d, and the even one where two are
pub record IsNearest (n d m : ℤ) : Type 0 where
  pub close : 2 * unsigned_abs (n -ℤ m *ℤ d) ≤ unsigned_abs d
  pub even : 2 * unsigned_abs (n -ℤ m *ℤ d) ≡ unsigned_abs d → unsigned_abs m % 2 ≡ 0

-- m is the number of units of 10^-6 nearest to a / b
abbrev pub IsNearestUnit : ℤ → ℤ → ℤ → Type 0
IsNearestUnit a b m = IsNearest (a *ℤ pos 1000000) b m

-- the same of numbers without sign
pub record IsNearestNatural (n d m : ℕ) : Type 0 where
  pub above : 2 * n ≤ 2 * (m * d) + d
  pub below : 2 * (m * d) ≤ 2 * n + d
  pub even_above : 2 * n ≡ 2 * (m * d) + d → m % 2 ≡ 0
  pub even_below : 2 * (m * d) ≡ 2 * n + d → m % 2 ≡ 0
