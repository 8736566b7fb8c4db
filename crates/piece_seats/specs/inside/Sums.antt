-- Counts of lines, and their sums.
use Rattle.std.specs.Prelude.{◌≡◌, ℕ, ◌+◌, List, [], ◌∷◌, Option, IfSome, length}
use Rattle.line_pieces.specs.Cuts.{Cutting}
use Rattle.line_pieces.specs.Pieces.{told_piece}

-- so many lines has a piece of files that tell this, where its file tells its bytes
abbrev pub IsCountOf : Cutting → List (Option (List ℕ)) → (piece count : ℕ) → Type 0
IsCountOf cut told piece count =
    IfSome (told_piece cut told piece) (λ lines. count ≡ length lines)

-- for each number the sum of those before it, and of `n`
abbrev pub sums_from : ℕ → List ℕ → List ℕ
sums_from n [] = []
sums_from n (x ∷ xs) = n ∷ sums_from (n + x) xs
