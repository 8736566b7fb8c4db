-- Units that are a whole number, near others.
use Rattle.std.specs.Prelude.{◌≡◌, ℤ, pos, ◌+ℤ◌, ◌-ℤ◌, ◌*ℤ◌, ◌≤ℤ◌, ◌<ℤ◌}
use Rattle.num_fixed.specs.Nearest.{IsNearest}

-- the units of a whole number
abbrev pub units_of : ℤ → ℤ
units_of k = k *ℤ pos 1000000

-- the units of some whole number
abbrev pub AreWhole : ℤ → Type 0
AreWhole r = (k : ℤ) × (r ≡ units_of k)

-- the greatest that is not above m
pub record IsFloor (m r : ℤ) : Type 0 where
  pub whole : AreWhole r
  pub low : r ≤ℤ m
  pub near : m <ℤ (r +ℤ pos 1000000)

-- the least that is not below m
pub record IsCeiling (m r : ℤ) : Type 0 where
  pub whole : AreWhole r
  pub high : m ≤ℤ r
  pub near : (r -ℤ pos 1000000) <ℤ m

-- the nearest to m, the greater one where two are
pub record IsRoundedUp (m r : ℤ) : Type 0 where
  pub whole : AreWhole r
  pub from : (r -ℤ pos 500000) ≤ℤ m
  pub below : m <ℤ (r +ℤ pos 500000)

-- the nearest to m, the even one where two are
abbrev pub IsRoundedEven : ℤ → ℤ → Type 0
IsRoundedEven m r = (k : ℤ) × (r ≡ units_of k) × IsNearest m (pos 1000000) k
