-- What calls do to the counts of inputs.
use Rattle.std.specs.Prelude.{◌≡◌, ◌<◌, ◌≤◌, ◌+◌, ◌-◌, ◌^◌, ℕ, max, min}
use Rattle.outside.specs.Counted.{Rose, StaysFull}
use Rattle.outside.specs.Opens.{InputCounts}

-- a counter's value once it was counted up so many times: it stays at its last value
abbrev pub counted_up : ℕ → ℕ → ℕ
counted_up n count = max count (min (count + n) (2 ^ 64 - 1))

-- a count that rose by so many, or stands at the last value of a counter
abbrev pub RoseBy : ℕ → ℕ → ℕ → Type 0
RoseBy n before after = after ≡ counted_up n before

-- no count falls
pub record NoCountFalls (before after : InputCounts) : Type 0 where
  pub faults : before.faults ≤ after.faults
  pub misses : before.misses ≤ after.misses
  pub opened : before.opened ≤ after.opened
  pub closed : before.closed ≤ after.closed

-- as many files were closed as were opened
pub record IsBalanced (before after : InputCounts) : Type 0 where
  pub same : after.opened < 2 ^ 64 - 1 → after.closed < 2 ^ 64 - 1
      → after.opened + before.closed ≡ before.opened + after.closed

-- what closing n files does to the counts, by how often calls on them have failed
pub record ClosesFiles (n failed : ℕ) (before after : InputCounts) : Type 0 where
  pub carried : 0 < failed → Rose before.faults after.faults
  pub clean : failed ≡ 0 → after.faults ≡ before.faults
  pub rises : before.faults ≤ after.faults
  pub full : StaysFull before.faults after.faults
  pub closed : RoseBy n before.closed after.closed
  pub opened : after.opened ≡ before.opened
  pub misses : after.misses ≡ before.misses
