-- The test of a number's text is true of the numerals alone.
use Rattle.std.proofs.Common.{◌≡◌, ◌⊎◌, inl, inr, ◌<◌, ℕ, zero, suc, ◌+◌, not, length-append, Bool, true, false, ◌==◌, ◌||◌, ◌&&◌, nat_lt, List, [], ◌∷◌, ◌++◌, length, take, drop, Option, Some, None, sym, ◌∙◌, ap, subst, refl, arith}
use Rattle.std.specs.Char.{is_ascii_digit}
use Rattle.std.specs.List.{list_all}
use Rattle.std.proofs.lemmas.Bool.{and_parts, eqb-true, cond-true, cond-false, cases_Bool}
use Rattle.std.proofs.lemmas.Bool.Decides.{nat_tests}
use Rattle.std.proofs.Math.Seq.{drop-append_seam}
use Rattle.std.proofs.lemmas.List.{append-nil, take-append-drop}
use Rattle.std.proofs.lemmas.List.Folds.{length-prefix_len}
use Rattle.num_fixed.specs.Numeral.{Sign, none, plus, minus, IsSign, IsFrac, IsExp, IsNumberText, frac_digits}
use Rattle.num_fixed.specs.Scan.{behind_sign, digits_len, only_digits, only_exp, ends_well, number_at}
use Rattle.num_fixed.proofs.Reading.{pieces, digits_len-append, digits_taken_are, sign_taken, exp_stops}

both : (a b : Bool) → a ≡ true → b ≡ true → (a && b) ≡ true
both a b p q = rw p q

either : (a b : Bool) → (a || b) ≡ true → (a ≡ true) ⊎ (b ≡ true)
either true b h = inl refl
either false b h = inr h

some_true : (n : ℕ) → 0 < n → nat_lt 0 n ≡ true
some_true n h = grind (arith, nat_tests)

true_some : (n : ℕ) → nat_lt 0 n ≡ true → 0 < n
true_some n h = grind (arith, nat_tests)

-- ---- what passes the test is a numeral

sign_there : (l : List ℕ) → (s : Sign) × IsSign s l (behind_sign l)
sign_there [] = (none, refl)
sign_there (b ∷ l) = elim (cases_Bool (b == 45)) [
  | inl e ↦ (minus, rw e (ap (λ c. c ∷ l) (eqb-true b 45 e)))
  | inr e ↦ elim (cases_Bool (b == 43)) [
    | inl f ↦ (plus, rw (e, f) (ap (λ c. c ∷ l) (eqb-true b 43 f)))
    | inr f ↦ (none, rw (e, f) refl)
  ]
]

letter : (b : ℕ) (l : List ℕ) → (b == 101 || b == 69) ≡ true → (b ∷ l ≡ 101 ∷ l) ⊎ (b ∷ l ≡ 69 ∷ l)
letter b l h = elim (either (b == 101) (b == 69) h) [
  | inl e ↦ inl (ap (λ c. c ∷ l) (eqb-true b 101 e))
  | inr e ↦ inr (ap (λ c. c ∷ l) (eqb-true b 69 e))
]

exp_there : (l : List ℕ) → only_exp l ≡ true → (x : Option (Sign × List ℕ)) × IsExp x l []
exp_there [] h = (None, refl)
exp_there (b ∷ l) h =
    let parts = and_parts (b == 101 || b == 69) (only_digits (behind_sign l)) h in
    let ds = behind_sign l in
    let digits = and_parts (nat_lt 0 (length ds)) (list_all is_ascii_digit ds) parts.1 in
    let s = sign_there l in
    (Some (s.0, ds), (l, letter b l parts.0, subst (IsSign s.0 l) (sym (append-nil ds)) s.1, digits.1, true_some (length ds) digits.0))

-- the parts behind the digits before the point
record Ends (some : Bool) (l : List ℕ) : Type 0 where
  frac : Option (List ℕ)
  exp : Option (Sign × List ℕ)
  behind : List ℕ
  is_frac : IsFrac frac l behind
  is_exp : IsExp exp behind []
  digit : (some ≡ true) ⊎ (0 < length (frac_digits frac))

digits_len_taken : (l : List ℕ) → 0 < digits_len l → 0 < length (take (digits_len l) l)
digits_len_taken l h = omega (arith, length-prefix_len is_ascii_digit l)

ends_there : (some : Bool) (l : List ℕ) → ends_well some l ≡ true → Ends some l
ends_there some [] h = record { frac = None; exp = None; behind = []; is_frac = refl; is_exp = refl; digit = inl h }
ends_there some (b ∷ l) h = elim (cases_Bool (b == 46)) [
  | inl e ↦
      let n = digits_len l in
      let parts = and_parts (some || nat_lt 0 n) (only_exp (drop n l)) (sym (cond-true (b == 46) _ _ e) ∙ h) in
      let x = exp_there (drop n l) parts.1 in
      record {
        frac = Some (take n l);
        exp = x.0;
        behind = drop n l;
        is_frac = (digits_taken_are l, ap (λ c. c ∷ l) (eqb-true b 46 e) ∙ ap (λ k. 46 ∷ k) (sym (take-append-drop n l)));
        is_exp = x.1;
        digit = elim (either some (nat_lt 0 n) parts.0) [ inl q ↦ inl q | inr q ↦ inr (digits_len_taken l (true_some n q)) ];
      }
  | inr e ↦
      let parts = and_parts some (only_exp (b ∷ l)) (sym (cond-false (b == 46) _ _ e) ∙ h) in
      let x = exp_there (b ∷ l) parts.1 in
      record { frac = None; exp = x.0; behind = b ∷ l; is_frac = refl; is_exp = x.1; digit = inl parts.0 }
]

pub sound : (l : List ℕ) → number_at l ≡ true → IsNumberText l
sound l h =
    let u = behind_sign l in
    let n = digits_len u in
    let s = sign_there l in
    let e = ends_there (nat_lt 0 n) (drop n u) h in (
      record { sign = s.0; int = take n u; frac = e.frac; exp = e.exp },
      record {
        behind_int = drop n u;
        behind_frac = e.behind;
        sign = subst (IsSign s.0 l) (sym (take-append-drop n u)) s.1;
        int = digits_taken_are u;
        frac = e.is_frac;
        exp = e.is_exp;
        some = elim e.digit [
          | inl q ↦ omega (arith, length-append (take n u) (frac_digits e.frac), digits_len_taken u (true_some n q))
          | inr q ↦ omega (arith, length-append (take n u) (frac_digits e.frac))
        ];
      },
    )

-- ---- a numeral passes the test

exp_passes : (x : Option (Sign × List ℕ)) (l : List ℕ) → IsExp x l [] → only_exp l ≡ true
exp_passes None l h = rw h refl
exp_passes (Some e) l h =
    let d = (sign_taken e.0 h.0 e.1 [] h.2 h.3 tt).1 ∙ append-nil e.1 in
    let digits : only_digits (behind_sign h.0) ≡ true = rw d (both (nat_lt 0 (length e.1)) (list_all is_ascii_digit e.1) (some_true (length e.1) h.4) h.3) in
    elim h.1 [ inl q ↦ rw q digits | inr q ↦ rw q digits ]

either_some : (k n : ℕ) → 0 < k + n → (nat_lt 0 k || nat_lt 0 n) ≡ true
either_some zero n h = some_true n (omega arith)
either_some (suc k) n h = rw (some_true (suc k) (omega arith)) refl

ends_pass : (k : ℕ) (f : Option (List ℕ)) (x : Option (Sign × List ℕ)) (l b : List ℕ) → IsFrac f l b → IsExp x b [] → 0 < k + length (frac_digits f) → ends_well (nat_lt 0 k) l ≡ true
ends_pass k None None l b f x h = let e : l ≡ [] = f ∙ x in rw e (some_true k (omega arith))
ends_pass k None (Some v) l b f x h =
    let some = some_true k (omega arith) in
    let passes : only_exp l ≡ true = ap only_exp f ∙ exp_passes (Some v) b x in
    elim x.1 [
      | inl q ↦ let e : l ≡ 101 ∷ x.0 = f ∙ q in let p : only_exp (101 ∷ x.0) ≡ true = ap only_exp (sym e) ∙ passes in rw e (both (nat_lt 0 k) (only_exp (101 ∷ x.0)) some p)
      | inr q ↦ let e : l ≡ 69 ∷ x.0 = f ∙ q in let p : only_exp (69 ∷ x.0) ≡ true = ap only_exp (sym e) ∙ passes in rw e (both (nat_lt 0 k) (only_exp (69 ∷ x.0)) some p)
    ]
ends_pass k (Some ds) x l b f e h =
    let n = digits_len-append ds b f.0 (exp_stops x b e) in
    let some : (nat_lt 0 k || nat_lt 0 (digits_len (ds ++ b))) ≡ true = rw n (either_some k (length ds) h) in
    let rest : only_exp (drop (digits_len (ds ++ b)) (ds ++ b)) ≡ true = ap (λ i. only_exp (drop i (ds ++ b))) n ∙ ap only_exp (drop-append_seam ds b) ∙ exp_passes x b e in
    rw f.1 (both _ _ some rest)

pub complete : (l : List ℕ) → IsNumberText l → number_at l ≡ true
complete l t =
    let n = t.0 in
    let h = t.1 in
    let u = behind_sign l in
    let p = pieces n l h in
    let size : digits_len u ≡ length n.int = sym (length-prefix_len is_ascii_digit u) ∙ ap length p.1 in
    ap (λ k. ends_well (nat_lt 0 k) (drop (digits_len u) u)) size ∙ ap (ends_well (nat_lt 0 (length n.int))) p.2
    ∙ ends_pass (length n.int) n.frac n.exp h.behind_int h.behind_frac h.frac h.exp (omega (arith, h.some, length-append n.int (frac_digits n.frac)))

-- the test's own steps
pub tested : (l w : List ℕ) (empty passes : Bool) → w ≡ take (digits_len l) l → empty ≡ (length w == 0) → passes ≡ ends_well (not empty) (drop (digits_len l) l) → passes ≡ ends_well (nat_lt 0 (digits_len l)) (drop (digits_len l) l)
tested l w empty passes e f h =
    let size : length w ≡ digits_len l = ap length e ∙ length-prefix_len is_ascii_digit l in
    h ∙ ap (λ b. ends_well b (drop (digits_len l) l)) (ap not (f ∙ ap (λ k. k == 0) size) ∙ flipped (digits_len l))
  where
    flipped : (k : ℕ) → not (k == 0) ≡ nat_lt 0 k
    flipped k = grind (arith, nat_tests)
