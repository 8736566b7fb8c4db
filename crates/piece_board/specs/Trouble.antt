-- The trouble of all seats, before and after a run.
use Rattle.std.specs.Prelude.{◌≤◌, ◌⊎◌, ℕ, List, [], ◌∷◌}
use Rattle.outside.specs.Counted.{Rose}

-- there are as many numbers as before, and none fell
abbrev pub AllRise : List ℕ → List ℕ → Type 0
AllRise [] [] = Unit {0}
AllRise [] (y ∷ ys) = ⊥
AllRise (x ∷ xs) [] = ⊥
AllRise (x ∷ xs) (y ∷ ys) = (x ≤ y) × AllRise xs ys

-- some number rose
abbrev pub SomeRose : List ℕ → List ℕ → Type 0
SomeRose [] [] = ⊥
SomeRose [] (y ∷ ys) = ⊥
SomeRose (x ∷ xs) [] = ⊥
SomeRose (x ∷ xs) (y ∷ ys) = Rose x y ⊎ SomeRose xs ys
