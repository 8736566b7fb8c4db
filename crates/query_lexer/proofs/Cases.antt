-- What a choice or a sum that was made tells of its parts.
use Rattle.std.proofs.Common.{◌≡◌, ◌⊎◌, inl, inr, ℕ, ◌+◌, Bool, true, false, not, cond, Option, Some, None, option_and_then, ◌∙◌, ap, refl, List, ◌∷◌, []}
use Rattle.std.proofs.lemmas.Bool.{eqb-true, or_cases, and_parts, not-true}
use Rattle.std.specs.List.{list_all}
use Rattle.query_lexer.specs.Comments.{plus}
use Rattle.query_lexer.specs.Bytes.{is_one_of}

pub chosen : {X : Type 0} (b : Bool) (x y z : X) → cond b x y ≡ z → ((b ≡ true) × (x ≡ z)) ⊎ ((b ≡ false) × (y ≡ z))
chosen true x y z h = inl (refl, h)
chosen false x y z h = inr (refl, h)

pub plus_back : (m : ℕ) (o : Option ℕ) (n : ℕ) → plus m o ≡ Some n → (k : ℕ) × (o ≡ Some k) × (n ≡ m + k)
plus_back m None n h = cc
plus_back m (Some k) n h = (k, refl, cc)

pub bound_back : {A B : Type 0} (f : A → Option B) (o : Option A) (y : B) → option_and_then f o ≡ Some y → (x : A) × (o ≡ Some x) × (f x ≡ Some y)
bound_back f None y h = cc
bound_back f (Some x) y h = (x, refl, h)

-- what a test says of each byte of a table it says of one that is in it
pub tested : (p : ℕ → Bool) (cs : List ℕ) → list_all p cs ≡ true → (b : ℕ) → is_one_of cs b ≡ true → p b ≡ true
tested p [] h b e = cc
tested p (c ∷ cs) h b e =
    let both = and_parts (p c) (list_all p cs) h in
    elim (or_cases _ _ e) [ inl f ↦ ap p (eqb-true b c f) ∙ both.0 | inr f ↦ tested p cs both.1 b f ]

pub tested_not : (p : ℕ → Bool) (cs : List ℕ) → list_all (λ c. not (p c)) cs ≡ true → (b : ℕ) → is_one_of cs b ≡ true → p b ≡ false
tested_not p cs h b e = not-true (p b) (tested (λ c. not (p c)) cs h b e)

pub some_pair : {A B : Type 0} (p q : A × B) → Some p ≡ Some q → (p.0 ≡ q.0) × (p.1 ≡ q.1)
some_pair {A} {B} p q h = let e : p ≡ q = cc in (ap (λ (x : A × B). x.0) e, ap (λ (x : A × B). x.1) e)
