-- The seats after a run are those before it, by what is said of each.
use Rattle.std.proofs.Common.{◌≡◌, ℕ, suc, List, [], ◌∷◌, length, map, refl, ap}
use Rattle.piece_board.specs.Trouble.{AllRise}

-- they are as many
pub as_many : {X : Type 0} (f : X → ℕ) (xs ys : List X) → AllRise (map f xs) (map f ys) → length ys ≡ length xs
as_many f [] [] h = refl
as_many f [] (y ∷ ys) h = absurd h
as_many f (x ∷ xs) [] h = absurd h
as_many f (x ∷ xs) (y ∷ ys) h = ap suc (as_many f xs ys h.1)
