-- Characters by their positions, where the first need not stand at position 1.
use Rattle.std.specs.Prelude.{ℕ, ℤ, pos, ◌+ℤ◌, Bool, if◌then◌else◌, List, [], ◌∷◌}

-- the characters whose positions pass a test, where the first stands at position p
abbrev pub at_positions : (ℤ → Bool) → ℤ → List ℕ → List ℕ
at_positions test p [] = []
at_positions test p (c ∷ t) =
    let more = at_positions test (p +ℤ pos 1) t in if test p then c ∷ more else more
