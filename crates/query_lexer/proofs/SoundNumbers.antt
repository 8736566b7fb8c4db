-- What number_at finds is a number of its kind.
use Rattle.std.proofs.Common.{◌≡◌, ◌⊎◌, inl, inr, ℕ, ◌+◌, ◌<◌, ◌≤◌, List, ◌∷◌, [], ◌++◌, length, length-drop, take, drop, true, ◌&&◌, ◌||◌, ◌==◌, nat_lt, sym, ◌∙◌, ap, subst, refl, arith, suc, Some}
use Rattle.std.proofs.lemmas.Bool.{cond-true, cond-false, and_parts, lt-ltb, le-ltb, ltb-true, eqb-true, or_cases, cases_Bool}
use Rattle.std.proofs.lemmas.List.{length-take-le}
use Rattle.std.proofs.lemmas.List.Sums.{prefix_len-le-length}
use Rattle.std.proofs.Math.Seq.{take-add}
use Rattle.std.specs.Char.{is_ascii_digit}
use Rattle.query_lexer.specs.Bytes.{is_sign}
use Rattle.query_lexer.specs.Scan.{fraction_at, exponent_at, number_at, number_kind}
use Rattle.num_fixed.specs.Scan.{digits_len}
use Rattle.num_fixed.specs.Fronts.{fraction_len, exponent_len, sign_len}
use Rattle.query_lexer.specs.Words.{IsDigits, IsDec, IsExponent, IsSign, Fits}
use Rattle.query_lexer.specs.declared.token.TokenKind.{TokenKind}
use Rattle.query_lexer.specs.declared.token.TokenKind.TheVariants as k
use Rattle.query_lexer.proofs.Runs.{run_passes}
use Rattle.query_lexer.proofs.Cases.{chosen, some_pair}

pub take_one : {A : Type 0} (n : ℕ) (x : A) (xs : List A) → take (1 + n) (x ∷ xs) ≡ x ∷ take n xs
take_one n x xs = let e : 1 + n ≡ suc n = omega arith in ap (λ k. take k (x ∷ xs)) e

-- the digits at the front, where there are some
digits_fit : (z : List ℕ) → 0 < digits_len z → IsDigits (take (digits_len z) z)
digits_fit z h = (omega (arith, length-take-le (digits_len z) z (prefix_len-le-length is_ascii_digit z)), run_passes is_ascii_digit z)

abbrev FractionFits : List ℕ → ℕ → Type 0
FractionFits z n = (n ≤ length z) × ((n ≡ 0) ⊎ ((b : List ℕ) × (take n z ≡ 46 ∷ b) × IsDigits b))

fraction_fits : (z : List ℕ) → FractionFits z (fraction_len z)
unfolding fraction_len
fraction_fits [] = (omega arith, inl refl)
fraction_fits (b ∷ r) = elim (cases_Bool (b == 46 && nat_lt 0 (digits_len r))) [
  | inl e ↦
      let both = and_parts _ _ e in
      let v = cond-true _ (1 + digits_len r) 0 e in
      let some = ltb-true 0 (digits_len r) both.1 in
      let l = prefix_len-le-length is_ascii_digit r in
      subst (FractionFits (b ∷ r)) (sym v) (omega arith, inr (take (digits_len r) r, take_one (digits_len r) b r ∙ ap (λ v. v ∷ take (digits_len r) r) (eqb-true b 46 both.0), digits_fit r some))
  | inr e ↦
      let v = cond-false _ (1 + digits_len r) 0 e in
      subst (FractionFits (b ∷ r)) (sym v) (omega arith, inl refl)
]

abbrev ExponentFits : List ℕ → ℕ → Type 0
ExponentFits z n = (n ≤ length z) × ((n ≡ 0) ⊎ IsExponent (take n z))

sign_fits : (r : List ℕ) → IsSign (take (sign_len r) r) × (sign_len r ≤ length r)
sign_fits [] = (tt, omega arith)
sign_fits (b ∷ r) = elim (cases_Bool (is_sign b)) [
  | inl e ↦ let v = cond-true (is_sign b) 1 0 e in subst (λ n. IsSign (take n (b ∷ r)) × (n ≤ length (b ∷ r))) (sym v) (e, omega arith)
  | inr e ↦ let v = cond-false (is_sign b) 1 0 e in subst (λ n. IsSign (take n (b ∷ r)) × (n ≤ length (b ∷ r))) (sym v) (tt, omega arith)
]

exponent_letter : (b : ℕ) → (b == 101 || b == 69) ≡ true → (b ≡ 101) ⊎ (b ≡ 69)
exponent_letter b h = elim (or_cases _ _ h) [ inl e ↦ inl (eqb-true b 101 e) | inr e ↦ inr (eqb-true b 69 e) ]

exponent_fits : (z : List ℕ) → ExponentFits z (exponent_len z)
unfolding exponent_len
exponent_fits [] = (omega arith, inl refl)
exponent_fits (b ∷ r) = elim (cases_Bool ((b == 101 || b == 69) && nat_lt 0 (digits_len (drop (sign_len r) r)))) [
  | inl e ↦
      let both = and_parts (b == 101 || b == 69) (nat_lt 0 (digits_len (drop (sign_len r) r))) e in
      let s = sign_len r in
      let d = digits_len (drop s r) in
      let v = cond-true _ (1 + s + d) 0 e in
      let some = ltb-true 0 d both.1 in
      let l = prefix_len-le-length is_ascii_digit (drop s r) in
      let m = length-drop s r in
      let g = sign_fits r in
      let most = g.1 in
      let size : 1 + s + d ≡ 1 + (s + d) = omega arith in
      subst (ExponentFits (b ∷ r)) (sym v) (omega arith, inr (b, take s r, take d (drop s r), ap (λ n. take n (b ∷ r)) size ∙ take_one (s + d) b r ∙ ap (λ t. b ∷ t) (take-add s d r), exponent_letter b both.0, g.0, digits_fit (drop s r) some))
  | inr e ↦
      let v = cond-false _ (1 + sign_len r + digits_len (drop (sign_len r) r)) 0 e in
      subst (ExponentFits (b ∷ r)) (sym v) (omega arith, inl refl)
]

-- the number without its exponent
pub record Mantissa (text : List ℕ) : Type 0 where
  pub within : digits_len text + fraction_at text ≤ length text
  pub fits : ((fraction_at text ≡ 0) × IsDigits (take (digits_len text + fraction_at text) text)) ⊎ ((0 < fraction_at text) × IsDec (take (digits_len text + fraction_at text) text))

mantissa_fits : (text : List ℕ) → 0 < digits_len text + fraction_at text → Mantissa text
unfolding fraction_at
mantissa_fits text some =
    let d = digits_len text in
    let z = drop d text in
    let l = prefix_len-le-length is_ascii_digit text in
    let m = length-drop d text in
    let f = fraction_fits z in
    let most = f.0 in
    record {
      within = omega arith;
      fits = elim f.1 [
        | inl none ↦
            let same : d + fraction_len z ≡ d = omega arith in
            inl (none, subst (λ n. IsDigits (take n text)) (sym same) (digits_fit text (omega arith)))
        | inr (b, is, good) ↦
            let longer = ap length is in
            let size = length-take-le (fraction_len z) z most in
            inr (omega arith, (take d text, b, take-add d (fraction_len z) text ∙ ap (λ t. take d text ++ t) is, run_passes is_ascii_digit text, good))
      ];
    }

pub record Sound (text : List ℕ) (kind : TokenKind) (n : ℕ) : Type 0 where
  pub some : 0 < n
  pub within : n ≤ length text
  pub fits : Fits kind (take n text) (drop n text)

exponent_at_fits : (text : List ℕ) → ExponentFits (drop (digits_len text + fraction_at text) text) (exponent_at text)
unfolding exponent_at
exponent_at_fits text = exponent_fits (drop (digits_len text + fraction_at text) text)

sound_by_lengths : (text : List ℕ) → 0 < digits_len text + fraction_at text → Sound text (number_kind (fraction_at text) (exponent_at text)) (digits_len text + fraction_at text + exponent_at text)
sound_by_lengths text some =
    let m = digits_len text + fraction_at text in
    let z = drop m text in
    let e = exponent_at text in
    let a = mantissa_fits text some in
    let x = exponent_at_fits text in
    let in_z = x.0 in
    let l = length-drop m text in
    let in_text = a.within in
    elim x.1 [
      | inl none ↦
          let same : m ≡ m + e = omega arith in
          elim a.fits [
            | inl (no_fraction, fit) ↦
                let is : k.Int ≡ number_kind (fraction_at text) e = sym (cond-false _ _ _ (le-ltb 0 e (omega arith)) ∙ cond-false _ _ _ (le-ltb 0 (fraction_at text) (omega arith))) in
                subst (λ q. Sound text q (m + e)) is (subst (Sound text k.Int) same (record { some = some; within = in_text; fits = fit }))
            | inr (fraction, fit) ↦
                let is : k.Dec ≡ number_kind (fraction_at text) e = sym (cond-false _ _ _ (le-ltb 0 e (omega arith)) ∙ cond-true _ _ _ (lt-ltb 0 (fraction_at text) fraction)) in
                subst (λ q. Sound text q (m + e)) is (subst (Sound text k.Dec) same (record { some = some; within = in_text; fits = fit }))
          ]
      | inr fit ↦
          let (c, s, b, parts, letter, sign, digits) = fit in
          let size = length-take-le e z in_z in
          let longer = ap length parts in
          let is : k.Double ≡ number_kind (fraction_at text) e = sym (cond-true _ _ _ (lt-ltb 0 e (omega arith))) in
          let mantissa : IsDigits (take m text) ⊎ IsDec (take m text) = elim a.fits [ inl v ↦ inl v.1 | inr v ↦ inr v.1 ] in
          subst (λ q. Sound text q (m + e)) is (record { some = omega arith; within = omega arith; fits = (take m text, take e z, take-add m e text, mantissa, fit) })
    ]

pub number_sound : (text : List ℕ) (kind : TokenKind) (n : ℕ) → number_at text ≡ Some (kind, n) → Sound text kind n
unfolding number_at
number_sound text kind n h = elim (chosen (nat_lt 0 (digits_len text + fraction_at text)) _ _ _ h) [
  | inl (some, is) ↦
      let (kinds, sizes) = some_pair {A = TokenKind} {B = ℕ} (number_kind (fraction_at text) (exponent_at text), digits_len text + fraction_at text + exponent_at text) (kind, n) is in
      subst (λ q. Sound text q n) kinds (subst (Sound text (number_kind (fraction_at text) (exponent_at text))) sizes (sound_by_lengths text (ltb-true 0 (digits_len text + fraction_at text) some)))
  | inr (none, is) ↦ let never : ⊥ = cc in absurd never
]
