-- Slices whose front is filled.
use Rattle.std.proofs.Common.{◌≡◌, ◌≤◌, ◌++◌, ℕ, zero, suc, List, [], ◌∷◌, take, drop, refl, ap, ◌∙◌, arith, append_assoc}
use Rattle.std.proofs.lemmas.List.{take-append-drop}
use Rattle.outside.specs.World.{filled}

rest_of_part : (n room : ℕ) (old : List ℕ) → n ≤ room
    → drop n (take room old) ++ drop room old ≡ drop n old
rest_of_part zero room old h = take-append-drop room old
rest_of_part (suc n) zero old h = absurd (omega arith)
rest_of_part (suc n) (suc room) [] h = refl
rest_of_part (suc n) (suc room) (x ∷ old) h = rest_of_part n room old (omega arith)

-- to fill the front of a slice's first part is to fill the slice's front
pub filled-part : (held : List ℕ) (at n room : ℕ) (old : List ℕ) → n ≤ room
    → filled held at n (take room old) ++ drop room old ≡ filled held at n old
filled-part held at n room old h =
    append_assoc (take n (drop at held)) (drop n (take room old)) (drop room old)
    ∙ ap (λ (l : List ℕ). take n (drop at held) ++ l) (rest_of_part n room old h)
