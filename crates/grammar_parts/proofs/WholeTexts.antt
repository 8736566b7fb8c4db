-- What a whole list of tokens is read as, and where it is refused. For other crates too.
use Rattle.std.proofs.Common.{◌≡◌, ◌≤◌, ◌+◌, ◌-◌, ◌==◌, ℕ, suc, Bool, false, List, [], ◌∷◌, ◌++◌, length, take, Option, Some, None, Ok, Err, refl, sym, ap, subst, ◌∙◌, append_assoc, MatchBool, arith}
use Rattle.std.proofs.lemmas.List.{append-nil, length-append, take_at}
use Rattle.std.proofs.lemmas.Bool.{eqb-true, false_from_ne_true}
use Rattle.grammar_parts.specs.Tokens.{Class}
use Rattle.grammar_parts.specs.Readers.{Outcome}
use Rattle.grammar_parts.specs.Parts.{Part}
use Rattle.grammar_parts.specs.Good.{Good, Judge}
use Rattle.grammar_parts.specs.Refusals.{Reached, RefusedAt, BeginsUnbounded, outcome_of}
use Rattle.grammar_parts.proofs.Cuts.{ok_rest, ok_value}
use Rattle.grammar_parts.proofs.Depth.{Same}

module _ {T A : Type 0} (g : Part T A) (first ext : Class T) (empty : Bool) (good : Good g first ext empty) where
  -- what was read is whole
  pub is_whole : (s : List T) (x : A) → g.read s ≡ Ok (x, []) → g.whole s x
  is_whole s x e =
      let j : Judge g s (Ok (x, [])) = subst (λ (y : Outcome T A). Judge g s y) e (good.judge s) in
      let same : s ≡ j.0 = j.1 ∙ append-nil j.0 in
      rw same j.2

  -- what is whole is read
  pub is_read : (s : List T) (x : A) → g.whole s x → g.read s ≡ Ok (x, [])
  is_read s x w = ap g.read (sym (append-nil s)) ∙ good.complete s [] x w (λ t r2 e c. absurd cc)

  pub one_value : (s : List T) (x y : A) → g.whole s x → g.whole s y → x ≡ y
  one_value s x y w v = ok_value x y [] [] (sym (is_read s x w) ∙ is_read s y v)

  pub reached_ok : (s : List T) (x : A) (r : List T) → g.read s ≡ Ok (x, r) → Reached g s r
  reached_ok s x r e =
      let j : Judge g s (Ok (x, r)) = subst (λ (y : Outcome T A). Judge g s y) e (good.judge s) in
      record { front = j.0; parts = j.1; begins = good.is_begun j.0 x j.2; stuck = j.3 }

  pub reached_err : (s r : List T) → g.read s ≡ Err r → Reached g s r
  reached_err s r e =
      let j : Judge g s (Err r) = subst (λ (y : Outcome T A). Judge g s y) e (good.judge s) in
      record { front = j.0; parts = j.1; begins = j.2; stuck = j.3 }

  -- Reading stops behind the longest beginning.
  pub reached : {R : Type 0} (view : R → A) (s : List T) (o : Option R) (r : List T) → g.read s ≡ outcome_of view o r → Reached g s r
  reached view s (Some x) r e = reached_ok s (view x) r e
  reached view s None r e = reached_err s r e

  pub refused_at : (s : List T) (t : T) (r : List T) (d : Reached g s (t ∷ r)) → RefusedAt g s d.front t r
  refused_at s t r d = record { parts = d.parts; begins = d.begins; first = d.stuck t r refl }

  -- a list with something left is no beginning
  pub begins_not : (s : List T) (t : T) (r : List T) → Reached g s (t ∷ r) → g.begun s → ⊥
  begins_not s t r d b =
      let e : s ≡ (d.front ++ t ∷ []) ++ r = d.parts ∙ sym (append_assoc d.front (t ∷ []) r) in
      d.stuck t r refl (good.closed (d.front ++ t ∷ []) r (rw e at b))

  pub begins_all : (s : List T) → Reached g s [] → g.begun s
  begins_all s r = let e : s ≡ r.front = r.parts ∙ append-nil r.front in rw e r.begins

  -- what stopped, or left something, is not whole
  pub not_whole_err : (s r : List T) → g.read s ≡ Err r → (x : A) → g.whole s x → ⊥
  not_whole_err s r e x w = let f = is_read s x w in cc

  pub not_whole_rest : (s : List T) (y : A) (t : T) (r : List T) → g.read s ≡ Ok (y, t ∷ r) → (x : A) → g.whole s x → ⊥
  not_whole_rest s y t r e x w = let f = ok_rest x y [] (t ∷ r) (sym (is_read s x w) ∙ e) in cc

-- ---- without a bound

module _ {T A : Type 0} (parts : ℕ → Part T A) (first ext : ℕ → Class T) (empty : Bool) (good : (n : ℕ) → Good (parts n) (first n) (ext n) empty)
    (same : (k n n2 : ℕ) → k ≤ n → k ≤ n2 → Same k (parts n) (parts n2)) (s : List T) where
  pub unbounded : (n : ℕ) → length s ≤ n → (parts n).begun s → BeginsUnbounded parts s
  unbounded n h b = (n, λ k le. (same (length s) n k h (omega arith)).0.begun s (omega arith) b)

  pub bounded : (n : ℕ) → length s ≤ n → BeginsUnbounded parts s → (parts n).begun s
  bounded n h (m, b) = (same (length s) (m + n) n (omega arith) h).0.begun s (omega arith) (b (m + n) (omega arith))

  -- Reading with as many forms as there are tokens tells whether they begin the part without a bound: nothing is left.
  pub unbounded_test : {R : Type 0} (view : R → A) (o : Option R) (r : List T) → (parts (length s)).read s ≡ outcome_of view o r → MatchBool (length r == 0) (BeginsUnbounded parts s) (BeginsUnbounded parts s → ⊥)
  unbounded_test view o [] e =
      let n = length s in
      unbounded n (omega arith) (begins_all (parts n) (first n) (ext n) empty (good n) s (reached (parts n) (first n) (ext n) empty (good n) view s o [] e))
  unbounded_test view o (t ∷ r) e =
      let z : (suc (length r) == 0) ≡ false = false_from_ne_true (suc (length r) == 0) (λ h. (let n = eqb-true (suc (length r)) 0 h in omega arith)) in
      let n = length s in
      rw z (λ b. begins_not (parts n) (first n) (ext n) empty (good n) s t r (reached (parts n) (first n) (ext n) empty (good n) view s o (t ∷ r) e) (bounded n (omega arith) b))

-- the tokens up to and with the refused one
pub up_to : {T : Type 0} (s u : List T) (t : T) (r : List T) → s ≡ u ++ t ∷ r → take (length s - length (t ∷ r) + 1) s ≡ u ++ t ∷ []
up_to s u t r e =
    let e2 : s ≡ (u ++ t ∷ []) ++ r = e ∙ sym (append_assoc u (t ∷ []) r) in
    let n : length s - length (t ∷ r) + 1 ≡ length (u ++ t ∷ []) = omega (arith, ap length e2, length-append (u ++ t ∷ []) r, length-append u (t ∷ [])) in
    rw (n, e2) (take_at (u ++ t ∷ []) r (length (u ++ t ∷ [])) refl)
