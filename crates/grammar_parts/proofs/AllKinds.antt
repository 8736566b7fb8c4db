-- Finitely many kinds of tokens, and tests of all of them. For other crates too.
use Rattle.std.proofs.Common.{◌≡◌, ◌<◌, ◌≤◌, ◌+◌, ◌==◌, ℕ, suc, Bool, true, List, [], ◌∷◌, length, inl, inr, arith}
use Rattle.std.specs.Prelude.{◌&&◌}
use Rattle.std.proofs.lemmas.Bool.{and_parts, cases_lt, eqb-true}
use denote.Struct.Field.{Field}
use denote.Enum.Enum.{Sum, tag}
use denote.Enum.Declared.{Declared, rowss, tag_of}
use denote.Enum.Bare.{Bare, tag_one}

-- whether the test holds of each kind of the list
abbrev pub each_of : {K : Type 0} → (K → Bool) → List K → Bool
each_of f [] = true
each_of f (k ∷ ks) = f k && each_of f ks

-- A list of kinds such that what holds of each of them holds of every kind.
pub record Kinds (K : Type 0) : Type 0 where
  pub all : List K
  pub each : (f : K → Bool) → each_of f all ≡ true → (k : K) → f k ≡ true

-- ---- the kinds of an enum without fields

-- whether the kinds have the numbers of their variants, from a number on
abbrev pub in_order : (D : Declared) → List D.D → ℕ → Bool
in_order D [] i = true
in_order D (k ∷ ks) i = (tag_of D k == i) && in_order D ks (suc i)

tag_below : (Fss : List (List Field)) → (s : Sum (rowss Fss)) → tag (rowss Fss) s < length Fss
tag_below [] s = absurd s
tag_below (Fs ∷ Fss) (inl x) = omega arith
tag_below (Fs ∷ Fss) (inr y) = (let h = tag_below Fss y in omega arith)

module _ (D : Declared) (bare : Bare D.parts) (f : D.D → Bool) (k : D.D) where
  found_at : (ks : List D.D) (i : ℕ) → in_order D ks i ≡ true → i ≤ tag_of D k → tag_of D k < i + length ks → each_of f ks ≡ true → f k ≡ true
  found_at [] i o low high e = absurd (omega arith)
  found_at (x ∷ xs) i o low high e = elim (cases_lt i (tag_of D k)) [
    | inl under ↦ (let high2 : tag_of D k < suc i + length xs = omega arith in found_at xs (suc i) (and_parts (tag_of D x == i) (in_order D xs (suc i)) o).1 under high2 (and_parts (f x) (each_of f xs) e).1)
    | inr over ↦ (
        let one : tag_of D x ≡ i = eqb-true (tag_of D x) i (and_parts (tag_of D x == i) (in_order D xs (suc i)) o).0 in
        let same : x ≡ k = tag_one D bare x k (omega arith) in
        rw (← same) (and_parts (f x) (each_of f xs) e).0)
  ]

pub every : (D : Declared) (bare : Bare D.parts) (all : List D.D) → in_order D all 0 ≡ true → length all ≡ length D.parts → (f : D.D → Bool) → each_of f all ≡ true → (k : D.D) → f k ≡ true
every D bare all o n f e k =
    let below : tag_of D k < length D.parts = tag_below D.parts (D.to k) in
    found_at D bare f k all 0 o (omega arith) (omega arith) e

-- The kinds of an enum without fields: a list with each variant in order is one of all.
abbrev pub kinds_of : (D : Declared) → Bare D.parts → (all : List D.D) → in_order D all 0 ≡ true → length all ≡ length D.parts → Kinds D.D
kinds_of D bare all o n = record { all = all; each = λ f e k. every D bare all o n f e k }
