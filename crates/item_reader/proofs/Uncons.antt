-- A byte in front of a list.
use Rattle.std.specs.Prelude.{◌≡◌, ℕ, List, [], ◌∷◌, Option, Some, None, refl}
use Rattle.std.proofs.Common.{ap}
use Rattle.item_reader.specs.Tokens.{uncons}

paired : (p q : ℕ × List ℕ) → Some p ≡ Some q → p ≡ q
paired p q h = cc

same_first : (x b : ℕ) (l r : List ℕ) → ◌≡◌ {A = Option (ℕ × List ℕ)} (Some (x, l)) (Some (b, r)) → x ≡ b
same_first x b l r h = ap (λ (p : ℕ × List ℕ). p.0) (paired (x, l) (b, r) h)

same_rest : (x b : ℕ) (l r : List ℕ) → ◌≡◌ {A = Option (ℕ × List ℕ)} (Some (x, l)) (Some (b, r)) → l ≡ r
same_rest x b l r h = ap (λ (p : ℕ × List ℕ). p.1) (paired (x, l) (b, r) h)

pub cons_of : (l : List ℕ) (b : ℕ) (r : List ℕ) → uncons l ≡ Some (b, r) → l ≡ b ∷ r
cons_of [] b r h = absurd cc
cons_of (x ∷ l) b r h = let f = same_first x b l r h in let g = same_rest x b l r h in rw (f, g) refl

pub nil_of : (l : List ℕ) → uncons l ≡ None → l ≡ []
nil_of [] h = refl
nil_of (x ∷ l) h = absurd cc
