-- Runs of bytes that pass a test.
use Rattle.std.proofs.Common.{◌≡◌, ℕ, ◌+◌, ◌≤◌, List, ◌∷◌, [], ◌++◌, length, take, Bool, true, false, ◌∙◌, refl, arith, suc}
use Rattle.std.proofs.lemmas.Bool.{cond-true, cond-false, and_parts, and_from, cases_Bool}
use Rattle.std.specs.List.{prefix_len, list_all}
use Rattle.std.proofs.Common.{inl, inr}
use Rattle.query_lexer.specs.Bytes.{next_passes}

-- a run is no longer than what passes at the front
pub run_le : (p : ℕ → Bool) (a rest : List ℕ) → list_all p a ≡ true → length a ≤ prefix_len p (a ++ rest)
run_le p [] rest h = omega arith
run_le p (x ∷ a) rest h =
    let both = and_parts (p x) (list_all p a) h in
    let more = run_le p a rest both.1 in
    let e = cond-true (p x) (1 + prefix_len p (a ++ rest)) 0 both.0 in
    omega arith

-- and is just as long where what follows doesn't pass
pub run_is : (p : ℕ → Bool) (a rest : List ℕ) → list_all p a ≡ true → next_passes p rest ≡ false → prefix_len p (a ++ rest) ≡ length a
run_is p [] [] h n = refl
run_is p [] (y ∷ rest) h n = cond-false _ _ _ n
run_is p (x ∷ a) rest h n =
    let both = and_parts (p x) (list_all p a) h in
    let more = run_is p a rest both.1 n in
    let e = cond-true (p x) (1 + prefix_len p (a ++ rest)) 0 both.0 in
    omega arith

-- what passes at the front passes
pub run_passes : (p : ℕ → Bool) (xs : List ℕ) → list_all p (take (prefix_len p xs) xs) ≡ true
run_passes p [] = refl
run_passes p (x ∷ xs) = elim (cases_Bool (p x)) [
  | inl e ↦
      let one : prefix_len p (x ∷ xs) ≡ suc (prefix_len p xs) = cond-true (p x) (1 + prefix_len p xs) 0 e ∙ omega arith in
      rw one (and_from (p x) (list_all p (take (prefix_len p xs) xs)) e (run_passes p xs))
  | inr e ↦
      let none : prefix_len p (x ∷ xs) ≡ 0 = cond-false (p x) (1 + prefix_len p xs) 0 e in
      rw none refl
]
