-- Marks of lanes: a number with a bit for each lane.
use Rattle.std.specs.Prelude.{◌≡◌, ℕ, ◌<◌, Bool, ◌==◌, if◌then◌else◌, List}
use Rattle.std.specs.Int.{w64, trailing_zeros}
use Rattle.std.specs.List.{prefix_len}

-- how many of n lanes stand before the lowest mark
abbrev pub before_mark : ℕ → ℕ → ℕ
before_mark marks n = if marks == 0 then n else trailing_zeros w64 marks

-- the lowest mark stands at the first of the n lanes that fails the test, if there is one
pub record AreMarks (test : ℕ → Bool) (lanes : List ℕ) (n marks : ℕ) : Type 0 where
  pub lowest : before_mark marks n ≡ prefix_len test lanes
  pub some : 0 < marks → prefix_len test lanes < n
