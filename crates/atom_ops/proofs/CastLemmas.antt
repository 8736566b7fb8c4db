-- The texts of numbers that a cast takes are numerals.
use Rattle.std.proofs.Common.{◌≡◌, inl, inr, ◌<◌, ℕ, ◌+◌, ◌==◌, nat_lt, Bool, true, false, ◌&&◌, ◌||◌, List, [], ◌∷◌, ◌++◌, length, Ok, Err, refl, sym, ap, ◌∙◌, subst, arith}
use Rattle.std.specs.Char.{is_ascii_digit}
use Rattle.std.specs.List.{list_all}
use Rattle.std.proofs.lemmas.Bool.{and_parts, cases_Bool, eqb-true}
use Rattle.std.proofs.lemmas.Bool.Decides.{nat_tests}
use Rattle.std.proofs.lemmas.List.{append-nil, length-append, take-append-drop}
use Rattle.std.proofs.lemmas.List.Folds.{length-prefix_len}
use Rattle.item_tree.specs.declared.code.Code.TheVariants.{FOAR0002, FORG0001}
use Rattle.num_fixed.specs.Bounds.{NumberInBounds}
use Rattle.num_fixed.specs.Fronts.{sign_first, fraction_of}
use Rattle.num_fixed.specs.Numeral.{Numeral, IsNumeral, IsSign, IsFrac, IsSaid, IsRefused, frac_digits}
use Rattle.num_fixed.specs.Scan.{behind_sign, digits_len}
use Rattle.num_fixed.specs.Values.{number_in_bounds, said}
use Rattle.num_fixed.specs.declared.number.NumFault.{NumFault}
use Rattle.num_fixed.specs.declared.number.Number.{Number}
use Rattle.num_fixed.proofs.Reading.{digits_taken_are}
use Rattle.num_fixed.proofs.ValueLemmas.{says_one, said_inside, said_outside}
use Rattle.atom_ops.specs.Casts.{is_fraction, ends_number, digits_front, behind_digits, is_plain_number, plain_numeral, number_in}

sign_is : (l : List ℕ) → IsSign (sign_first l) l (behind_sign l)
sign_is [] = refl
sign_is (b ∷ l) = elim (cases_Bool (b == 43)) [
  | inl e ↦ subst (λ c. IsSign (sign_first (c ∷ l)) (c ∷ l) (behind_sign (c ∷ l))) (sym (eqb-true b 43 e)) refl
  | inr e ↦ elim (cases_Bool (b == 45)) [
    | inl f ↦ subst (λ c. IsSign (sign_first (c ∷ l)) (c ∷ l) (behind_sign (c ∷ l))) (sym (eqb-true b 45 f)) refl
    | inr f ↦ rw (e, f) refl
  ]
]

frac_is : (point some : Bool) (v : List ℕ) → ends_number point some v ≡ true → IsFrac (fraction_of v) v []
frac_is point some [] h = refl
frac_is point some (b ∷ ds) h =
    let parts = and_parts (point && (b == 46)) (is_fraction some ds) h in
    let dot = eqb-true b 46 (and_parts point (b == 46) parts.0).1 in
    let digits = (and_parts (list_all is_ascii_digit ds) (some || nat_lt 0 (length ds)) parts.1).0 in
    (digits, ap (λ c. c ∷ ds) dot ∙ ap (λ r. 46 ∷ r) (sym (append-nil ds)))

some_is : (point : Bool) (k : ℕ) (w v : List ℕ) → length w ≡ k → ends_number point (nat_lt 0 k) v ≡ true → 0 < length (w ++ frac_digits (fraction_of v))
some_is point k w [] e h = let some : 0 < k = grind (arith, nat_tests) in rw (append-nil w) (omega arith)
some_is point k w (b ∷ ds) e h =
    let some : (nat_lt 0 k || nat_lt 0 (length ds)) ≡ true =
    (and_parts (list_all is_ascii_digit ds) _ (and_parts (point && (b == 46)) (is_fraction (nat_lt 0 k) ds) h).1).1
    in
    let either : 0 < k + length ds = grind (arith, nat_tests) in
    rw (length-append w ds) (omega arith)

pub plain_is : (point : Bool) (l : List ℕ) → is_plain_number point l ≡ true → IsNumeral (plain_numeral l) l []
plain_is point l h =
    let u = behind_sign l in record {
      behind_int = behind_digits u;
      behind_frac = [];
      sign = subst (IsSign (sign_first l) l) (sym (take-append-drop (digits_len u) u)) (sign_is l);
      int = digits_taken_are u;
      frac = frac_is point (nat_lt 0 (digits_len u)) (behind_digits u) h;
      exp = refl;
      some = some_is point (digits_len u) (digits_front u) (behind_digits u) (length-prefix_len is_ascii_digit u) h;
    }

-- a text that is no such number
pub no_number : (point : Bool) (l : List ℕ) → is_plain_number point l ≡ false → number_in point l ≡ Err FORG0001
no_number point l h = rw h refl

pub number_read : (point : Bool) (l : List ℕ) (x : Number) → is_plain_number point l ≡ true → ((n : Numeral) → IsNumeral n l [] → IsSaid n x) → Ok x ≡ number_in point l
number_read point l x h says =
    let n = plain_numeral l in
    let said_x = says n (plain_is point l h) in
    let within : number_in_bounds (said n) ≡ true = said_inside n x said_x.0 said_x.1 in
    rw (h, within) (ap Ok (says_one n x said_x.0))

pub number_refused : (point : Bool) (l : List ℕ) (e : NumFault) → is_plain_number point l ≡ true → ((n : Numeral) → IsNumeral n l [] → IsRefused n e) → Err FOAR0002 ≡ number_in point l
number_refused point l e h refused =
    let n = plain_numeral l in
    let over : number_in_bounds (said n) ≡ false = said_outside n (refused n (plain_is point l h)).1 in
    rw (h, over) refl

pub number_within : (point : Bool) (l : List ℕ) (x : Number) → is_plain_number point l ≡ true → ((n : Numeral) → IsNumeral n l [] → IsSaid n x) → NumberInBounds x
number_within point l x h says = (says (plain_numeral l) (plain_is point l h)).1
