-- Tests on numbers, and what is picked by them.
use Rattle.std.proofs.Common.{◌≡◌, ℕ, ◌+◌, ◌<◌, ◌≤◌, ◌==◌, Bool, true, false, nat_lt, nat_le, if◌then◌else◌, List, [], ◌++◌, Result, Ok, Err, refl, sym, ap, append_assoc, arith}
use Rattle.std.proofs.lemmas.Bool.Decides.{nat_tests}
use Rattle.stage_laws.specs.Runs.{Met, with_front, joined}
use Rattle.stage_laws.specs.Pieces.{moved}

pub lt_true : (a b : ℕ) → a < b → nat_lt a b ≡ true
lt_true a b h = grind (arith, nat_tests)

pub lt_false : (a b : ℕ) → b ≤ a → nat_lt a b ≡ false
lt_false a b h = grind (arith, nat_tests)

pub le_true : (a b : ℕ) → a ≤ b → nat_le a b ≡ true
le_true a b h = grind (arith, nat_tests)

pub le_false : (a b : ℕ) → b < a → nat_le a b ≡ false
le_false a b h = grind (arith, nat_tests)

pub eq_true : (a b : ℕ) → a ≡ b → (a == b) ≡ true
eq_true a b h = grind (arith, nat_tests)

pub eq_false : (a b : ℕ) → (a ≡ b → ⊥) → (a == b) ≡ false
eq_false a b h = grind (arith, nat_tests)

pub lt_is : (a b : ℕ) → nat_lt a b ≡ true → a < b
lt_is a b h = grind (arith, nat_tests)

pub lt_not : (a b : ℕ) → nat_lt a b ≡ false → b ≤ a
lt_not a b h = grind (arith, nat_tests)

pub le_is : (a b : ℕ) → nat_le a b ≡ true → a ≤ b
le_is a b h = grind (arith, nat_tests)

pub le_not : (a b : ℕ) → nat_le a b ≡ false → b < a
le_not a b h = grind (arith, nat_tests)

pub eq_is : (a b : ℕ) → (a == b) ≡ true → a ≡ b
eq_is a b h = grind (arith, nat_tests)

pub eq_not : (a b : ℕ) → (a == b) ≡ false → a ≡ b → ⊥
eq_not a b h k = grind (arith, nat_tests)

pub picks : {A : Type 0} (b : Bool) (x y : A) → b ≡ true → (if b then x else y) ≡ x
picks b x y h = ap (λ (b : Bool). if b then x else y) h

pub passes : {A : Type 0} (b : Bool) (x y : A) → b ≡ false → (if b then x else y) ≡ y
passes b x y h = ap (λ (b : Bool). if b then x else y) h

-- ---- lists, or faults

pub nothing_in_front : {B E : Type 0} (r : Result (List B) E) → with_front [] r ≡ r
nothing_in_front (Ok xs) = refl
nothing_in_front (Err fault) = refl

fronts : {B E : Type 0} (xs ys : List B) (r : Result (List B) E) → with_front xs (with_front ys r) ≡ with_front (xs ++ ys) r
fronts xs ys (Ok zs) = ap Ok (sym (append_assoc xs ys zs))
fronts xs ys (Err fault) = refl

front_joined : {B E : Type 0} (xs : List B) (r s : Result (List B) E) → with_front xs (joined r s) ≡ joined (with_front xs r) s
front_joined xs (Ok ys) s = fronts xs ys s
front_joined xs (Err fault) s = refl

pub joined_joined : {B E : Type 0} (q r s : Result (List B) E) → joined q (joined r s) ≡ joined (joined q r) s
joined_joined (Ok xs) r s = front_joined xs r s
joined_joined (Err fault) r s = refl

-- ---- moved

pub moved_same : {B K F : Type 0} (f g : ℕ → ℕ) (r : Result B (Met K F)) → ((e : Met K F) → r ≡ Err e → f e.step ≡ g e.step) → moved f r ≡ moved g r
moved_same f g (Ok ys) h = refl
moved_same f g (Err e) h = ap (λ (n : ℕ). Err (record e { tuple = n + e.tuple })) (h e refl)
