-- Two maps over a list in place of one.
use Rattle.std.proofs.Common.{◌≡◌, List, [], ◌∷◌, map, refl}

pub map_same : {A B C : Type 0} (f : A → B) (g : B → C) (h : A → C) → ((x : A) → g (f x) ≡ h x) → (xs : List A) → map g (map f xs) ≡ map h xs
map_same f g h same [] = refl
map_same f g h same (x ∷ xs) = λ i. same x i ∷ map_same f g h same xs i
