-- The number at the front of a line.
use Rattle.std.specs.Prelude.{◌≡◌, ◌≤◌, ◌==◌, ℕ, zero, suc, ◌+◌, ◌-◌, Bool, true, false, cond, List, [], ◌∷◌, length, take, drop, Some, None, refl}
use Rattle.std.proofs.Common.{◌∙◌, ap, inl, inr, arith}
use Rattle.std.proofs.lemmas.Bool.{cond-true, cond-false, cases_Bool}
use Rattle.std.proofs.lemmas.List.{drop-take, take_rest}
use Rattle.std.proofs.Math.Seq.{take-nil}
use Rattle.num_fixed.specs.Fronts.{minus_len, whole_end, fraction_end, number_end, has_number, numeral_front, behind_front, whole_at}
use Rattle.num_fixed.specs.Scan.{digits_len}
use Rattle.num_fixed.proofs.FrontLemmas.{parts}
use Rattle.json_text.specs.inside.Scan.{is_int, is_json_front, numeral_at}
use Rattle.json_text.proofs.NumeralLemmas.{number_there}

pub whole_within : (l : List ℕ) (end : ℕ) → end ≡ whole_end l → end ≤ length l
unfolding fraction_end number_end
whole_within l end e = omega (arith, (parts l).within)

minus_kept : (l : List ℕ) (n : ℕ) → minus_len (take (minus_len l + n) l) ≡ minus_len l
minus_kept [] n = ap minus_len (take-nil (0 + n))
minus_kept (b ∷ l) n = by (b == 45) n refl
  where
    by : (t : Bool) (n : ℕ) → (b == 45) ≡ t → minus_len (take (cond t 1 0 + n) (b ∷ l)) ≡ cond t 1 0
    by true n e = let more : 1 + n ≡ suc n = omega arith in ap (λ k. minus_len (take k (b ∷ l))) more ∙ ap (λ t. cond t 1 0) e
    by false zero e = refl
    by false (suc n) e = let more : 0 + suc n ≡ suc n = omega arith in ap (λ k. minus_len (take k (b ∷ l))) more ∙ ap (λ t. cond t 1 0) e

-- the digits before the point, as a slice without the minus
whole_digits : (l : List ℕ) → drop (minus_len (take (whole_end l) l)) (take (whole_end l) l) ≡ whole_at l
unfolding whole_end
whole_digits l =
    let m = minus_len l in
    let d = digits_len (drop m l) in
    ap (λ k. drop k (take (m + d) l)) (minus_kept l d) ∙ drop-take m d l

pub json_told : (l : List ℕ) (end : ℕ) (t : List ℕ) → end ≡ whole_end l → t ≡ drop (minus_len (take end l)) (take end l) → is_int t ≡ is_json_front l
json_told l end t e h = ap is_int (h ∙ ap (λ k. drop (minus_len (take k l)) (take k l)) e ∙ whole_digits l)

pub end_within : (l : List ℕ) (end : ℕ) → end ≡ number_end l → end ≤ length l
end_within l end e = omega (arith, (parts l).within)

pub json_taken : (l : List ℕ) → is_json_front l ≡ true → numeral_at l ≡ Some (numeral_front l, behind_front l)
unfolding numeral_at
json_taken l e = cond-true (is_json_front l) (Some (numeral_front l, behind_front l)) None e

pub others_refused : (l : List ℕ) → is_json_front l ≡ false → numeral_at l ≡ None
unfolding numeral_at
others_refused l e = cond-false (is_json_front l) (Some (numeral_front l, behind_front l)) None e

pub none_there : (l : List ℕ) → has_number l ≡ false → numeral_at l ≡ None
none_there l h = elim (cases_Bool (is_json_front l)) [
  | inl e ↦ let some = number_there l e in absurd cc
  | inr e ↦ others_refused l e
]

-- what is behind the number, as a slice
pub behind_end : (l : List ℕ) (end : ℕ) → end ≡ number_end l → take (length l - end) (drop end l) ≡ behind_front l
behind_end l end e = take_rest l end ∙ ap (λ k. drop k l) e
