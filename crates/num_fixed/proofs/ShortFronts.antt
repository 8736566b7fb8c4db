-- A short whole number without a sign at the front of a text.
use Rattle.std.proofs.Common.{◌≡◌, ◌≢◌, ◌⊎◌, inl, inr, ℕ, ◌+◌, ◌-◌, ◌<◌, ◌≤◌, ◌==◌, nat_lt, Bool, true, false, not, ◌&&◌, List, [], ◌∷◌, length, take, drop, Some, None, refl, sym, ◌∙◌, ap, arith}
use Rattle.std.specs.Char.{is_ascii_digit}
use Rattle.std.proofs.lemmas.Bool.{cond-true, cond-false, cases_Bool, lt-ltb, le-ltb, eqb-true}
use Rattle.std.proofs.lemmas.List.{append-nil, length-take-le}
use Rattle.std.proofs.lemmas.List.Sums.{prefix_len-le-length}
use Rattle.num_fixed.specs.Fronts.{minus_len, fraction_len, exponent_len, may_go_on, short_whole, IsWholeFront}
use Rattle.num_fixed.specs.Numeral.{number_of}
use Rattle.num_fixed.specs.Scan.{digits_len}
use Rattle.num_fixed.specs.inside.Spells.{spelled, IsKeptIn64}
use Rattle.num_fixed.proofs.FrontLemmas.{AreLengths, few, spelled_is, slice_rest, lengths_of_whole, whole_ends, ends_at, small_read, no_places}
use Rattle.num_fixed.proofs.Reading.{digits_taken_are}

-- ---- whether there is one

-- why none is there
abbrev pub IsNotShort : List ℕ → ℕ → Type 0
IsNotShort l w = (w ≡ 0) ⊎ ((18 < w) ⊎ (may_go_on (drop w l) ≡ true))

refused : (d : ℕ) (t : Bool) → (d ≡ 0) ⊎ ((18 < d) ⊎ (t ≡ true)) → (nat_lt 0 d && nat_lt d 19 && not t) ≡ false
refused d t (inl h) = rw h refl
refused d t (inr (inl h)) = rw (le-ltb d 19 (omega (arith, h))) (both (nat_lt 0 d))
  where
    both : (b : Bool) → (b && false && not t) ≡ false
    both true = refl
    both false = refl
refused d t (inr (inr h)) = rw h (both (nat_lt 0 d) (nat_lt d 19))
  where
    both : (a b : Bool) → (a && b && false) ≡ false
    both true true = refl
    both true false = refl
    both false true = refl
    both false false = refl

pub none_short : (l : List ℕ) (w : ℕ) → w ≡ digits_len l → IsNotShort l w → short_whole l ≡ None
unfolding short_whole
none_short l w e h = cond-false _ _ _ (ap (λ d. nat_lt 0 d && nat_lt d 19 && not (may_go_on (drop d l))) (sym e) ∙ refused w (may_go_on (drop w l)) h)

taken : (l : List ℕ) (w n : ℕ) → w ≡ digits_len l → w ≤ 18 → IsKeptIn64 (spelled 0 l) n → n ≡ number_of 0 (take (digits_len l) l)
taken l w n e small kept =
    let d = digits_len l in
    let ds = take d l in
    let size = length-take-le d l (prefix_len-le-length is_ascii_digit l) in
    let first : IsKeptIn64 (number_of 0 ds) n = λ h. kept (omega (arith, spelled_is 0 l)) ∙ spelled_is 0 l in
    (few ds [] n n (digits_taken_are l) refl (omega arith) first (λ h. refl)).0 ∙ ap (number_of 0) (append-nil ds)

pub some_short : (l : List ℕ) (w n : ℕ) → w ≡ digits_len l → w ≢ 0 → w ≤ 18 → may_go_on (drop w l) ≡ false → IsKeptIn64 (spelled 0 l) n → short_whole l ≡ Some (n, w)
unfolding short_whole
some_short l w n e some small ends kept =
    let d = digits_len l in
    let test : (nat_lt 0 w && nat_lt w 19 && not (may_go_on (drop w l))) ≡ true = rw (lt-ltb 0 w (omega arith), lt-ltb w 19 (omega arith), ends) refl in
    let is : (nat_lt 0 d && nat_lt d 19 && not (may_go_on (drop d l))) ≡ true = ap (λ k. nat_lt 0 k && nat_lt k 19 && not (may_go_on (drop k l))) (sym e) ∙ test in
    cond-true _ _ _ is ∙ ap (λ k. Some (k, d)) (sym (taken l w n e small kept)) ∙ ap (λ k. Some (n, k)) (sym e)

-- ---- what it is

no_minus : (l : List ℕ) → 0 < digits_len l → minus_len l ≡ 0
no_minus [] h = refl
no_minus (b ∷ l) h = elim (cases_Bool (b == 45)) [
  | inl e ↦ absurd (omega (arith, h, ap (λ c. digits_len (c ∷ l)) (eqb-true b 45 e)))
  | inr e ↦ rw e refl
]

pub short_lengths : (l : List ℕ) (w : ℕ) → w ≡ digits_len l → w ≢ 0 → fraction_len (take (length l - w) (drop w l)) ≡ 0 → exponent_len (take (length l - w) (drop w l)) ≡ 0 → AreLengths l 0 w 0 0
short_lengths l w e some c d =
    let same : 0 + w ≡ w = omega arith in
    lengths_of_whole l 0 w (sym (no_minus l (omega arith))) (e ∙ ap digits_len (sym (slice_rest l 0))) (ap (λ k. fraction_len (take (length l - k) (drop k l))) same ∙ c) (ap (λ k. exponent_len (take (length l - k) (drop k l))) same ∙ d)

pub short_front : (l : List ℕ) (w n : ℕ) → AreLengths l 0 w 0 0 → w ≤ 18 → IsKeptIn64 (spelled 0 l) n → IsWholeFront l (n, w)
short_front l w n h small kept =
    let whole = whole_ends l 0 w 0 0 h in
    let end = ends_at l 0 w 0 0 h in
    (omega arith, omega arith, small_read l 0 w 0 0 n n h (omega arith) (omega arith) refl kept (no_places l 0 w n h))
