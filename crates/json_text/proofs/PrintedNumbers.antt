-- The text of a number says the number.
use Rattle.std.specs.Prelude.{◌≡◌, ◌<◌, ℕ, zero, suc, ◌+◌, ◌*◌, ◌/◌, ◌%◌, ◌^◌, ◌==◌, ℤ, pos, negsuc, Bool, true, false, cond, List, [], ◌∷◌, ◌++◌, length, drop, replicate, Some, None, Ok, refl}
use Rattle.std.specs.Fmt.{decimal as digits_of, signed_decimal}
use Rattle.std.proofs.Common.{sym, ◌∙◌, ap, subst, inl, arith, append_assoc, append-nil, length-append, pow-add}
use Rattle.std.proofs.lemmas.Bool.{eqb-false}
use Rattle.std.proofs.lemmas.Int.{ints}
use Rattle.std.proofs.lemmas.List.{length-replicate}
use Rattle.std.proofs.Math.Nat.{mul_assoc}
use Rattle.num_fixed.specs.Bounds.{NumberInBounds}
use Rattle.num_fixed.specs.Fronts.{IsMinusOrNone}
use Rattle.num_fixed.specs.Nearest.{IsNearestNatural}
use Rattle.num_fixed.specs.Numeral.{Sign, none, minus, Numeral, AreDigits, IsSign, IsUnitsOf, Says, is_minus, number_of}
use Rattle.num_fixed.specs.Signs.{with_sign}
use Rattle.num_fixed.specs.declared.number.Kind.TheVariants.{Whole, Units}
use Rattle.num_fixed.specs.declared.number.Number.{Number}
use Rattle.num_fixed.specs.declared.number.Number.TheVariants.{Int, Dec}
use Rattle.num_fixed.proofs.DigitLemmas.{power_some, split_number}
use Rattle.num_fixed.proofs.Reading.{units_read, signed_in_bounds}
use Rattle.num_fixed.proofs.ScaleLemmas.{exact}
use Rattle.item_tree.specs.Datum.{Datum, integer, decimal, IsWhole, IsUnits}
use Rattle.item_tree.specs.ItemText.{without_last_zeros, units_text, decimal_text}
use Rattle.json_text.specs.Json.{IsInt, IsJsonNumber}
use Rattle.json_text.specs.Meaning.{NumberGives, number_datum}
use Rattle.json_text.specs.Plain.{plain_decimal}
use Rattle.json_text.proofs.NumeralLemmas.{int_some}
use Rattle.json_text.proofs.DecimalDigits.{decimal_is, last_digits, last_are, last_length, last_value, one_before, stripped, stripped_value, stripped_some, stripped_digits}

-- a text that says a number, whatever stands behind it
pub record SaysNumber (x : Number) (t : List ℕ) : Type 0 where
  pub numeral : Numeral
  pub written : (r : List ℕ) → IsJsonNumber numeral (t ++ r) r
  pub says : Says numeral x

-- digits with a minus in front, or without
abbrev pub signed : Bool → List ℕ → List ℕ
signed false t = t
signed true t = 45 ∷ t

abbrev pub sign_of : Bool → Sign
sign_of false = none
sign_of true = minus

sign_written : (s : Bool) (l m : List ℕ) (r : List ℕ) → l ++ r ≡ m → IsSign (sign_of s) (signed s l ++ r) m
sign_written false l m r e = e
sign_written true l m r e = ap (λ x. 45 ∷ x) e

sign_allowed : (s : Bool) → IsMinusOrNone (sign_of s)
sign_allowed false = tt
sign_allowed true = tt

sign_same : (s : Bool) → is_minus (sign_of s) ≡ s
sign_same false = refl
sign_same true = refl

pub integer_says : (s : Bool) (n : ℕ) → n < 10 ^ 64 → SaysNumber (Int (with_sign s n)) (signed s (digits_of n))
integer_says s n h =
    let k = decimal_is n h in
    record {
      numeral = record { sign = sign_of s; int = digits_of n; frac = None; exp = None };
      written = λ r. record {
        front = record {
          numeral = record { behind_int = r; behind_frac = r; sign = sign_written s (digits_of n) (digits_of n ++ r) r refl; int = k.digits; frac = refl; exp = refl; some = int_some (digits_of n) [] k.int };
          sign = sign_allowed s;
          frac = tt;
        };
        int = k.int;
      };
      says = (refl, refl, sym (ap (λ b. with_sign b (number_of 0 (digits_of n))) (sign_same s) ∙ ap (with_sign s) k.value));
    }

-- ---- decimals

-- digits before the point, and some behind it that are no more than six
pub record IsPointed (units : ℕ) (front back : List ℕ) : Type 0 where
  pub int : IsInt front
  pub digits : AreDigits front
  pub more : AreDigits back
  pub some : 0 < length back
  pub value : number_of 0 (front ++ back) * 10 ^ 6 ≡ units * 10 ^ length back

pub pointed_says : (s : Bool) (units : ℕ) (front back : List ℕ) → IsPointed units front back → SaysNumber (Dec (with_sign s units)) (signed s (front ++ (46 ∷ back)))
pointed_says s units front back k =
    let n : ℕ = number_of 0 (front ++ back) in
    let d : ℕ = length back + 0 in
    let near : IsNearestNatural (n * 10 ^ (6 + 0)) (10 ^ d) units = subst (λ x. IsNearestNatural x (10 ^ d) units) (scaled n) (exact units (10 ^ d) (power_some d)) in
    record {
      numeral = record { sign = sign_of s; int = front; frac = Some back; exp = None };
      written = λ r. record {
        front = record {
          numeral = record {
            behind_int = 46 ∷ (back ++ r);
            behind_frac = r;
            sign = sign_written s (front ++ (46 ∷ back)) (front ++ (46 ∷ (back ++ r))) r (append_assoc front (46 ∷ back) r);
            int = k.digits;
            frac = (k.more, refl);
            exp = refl;
            some = int_some front back k.int;
          };
          sign = sign_allowed s;
          frac = k.some;
        };
        int = k.int;
      };
      says = (inl refl, subst (λ b. IsUnitsOf b (front ++ back) (length back) None (with_sign s units)) (sym (sign_same s)) (units_read s n 0 d units near));
    }
  where
    scaled : (n : ℕ) → units * 10 ^ (length back + 0) ≡ number_of 0 (front ++ back) * 10 ^ (6 + 0)
    scaled n = let z : length back + 0 ≡ length back = omega arith in ap (λ j. units * 10 ^ j) z ∙ sym k.value

-- the digits behind the point
abbrev pub places : ℕ → List ℕ
places rest = without_last_zeros (last_digits 6 rest)

places_written : (rest : ℕ) → rest < 1000000 → without_last_zeros (drop 1 (digits_of (1000000 + rest))) ≡ places rest
places_written rest h = ap (λ ds. without_last_zeros (drop 1 ds)) (one_before 6 rest h (omega arith))

powers : (n z k u : ℕ) → n * 10 ^ z ≡ u → z + k ≡ 6 → n * 10 ^ 6 ≡ u * 10 ^ k
powers n z k u e h =
    ap (λ j. n * 10 ^ j) (sym h) ∙ ap (λ x. n * x) (pow-add 10 z k) ∙ sym (mul_assoc n (10 ^ z) (10 ^ k)) ∙ ap (λ x. x * 10 ^ k) e

places_pointed : (whole rest : ℕ) → whole < 10 ^ 64 → rest < 1000000 → 0 < rest → IsPointed (whole * 1000000 + rest) (digits_of whole) (places rest)
places_pointed whole rest high h some =
    let ds : List ℕ = last_digits 6 rest in
    let k = decimal_is whole high in
    let s = stripped ds in
    let value : number_of 0 ds ≡ rest = last_value 6 rest h in
    let long : length ds ≡ 6 = last_length 6 rest in
    let cut : length ds ≡ length (places rest) + s.0 = ap length s.1 ∙ length-append (places rest) (replicate s.0 48) ∙ ap (λ n. length (places rest) + n) (length-replicate s.0 48) in
    let front = k.value in
    let all : number_of 0 (digits_of whole ++ places rest) * 10 ^ s.0 ≡ whole * 1000000 + rest =
    sym (stripped_value (digits_of whole) (places rest) s.0) ∙ ap (λ x. number_of 0 (digits_of whole ++ x)) (sym s.1) ∙ split_number (digits_of whole) ds
    ∙ ap (λ n. number_of 0 (digits_of whole) * 10 ^ n + number_of 0 ds) long ∙ omega arith in
    record {
      int = k.int;
      digits = k.digits;
      more = stripped_digits ds (places rest) s (last_are 6 rest);
      some = stripped_some ds (places rest) s (omega arith);
      value = powers (number_of 0 (digits_of whole ++ places rest)) s.0 (length (places rest)) (whole * 1000000 + rest) all (omega arith);
    }

-- ---- the numbers of items

-- a text that gives the value, whatever stands behind it
pub record PrintsNumber (t : List ℕ) (x : Datum) : Type 0 where
  pub numeral : Numeral
  pub written : (r : List ℕ) → IsJsonNumber numeral (t ++ r) r
  pub gives : NumberGives numeral (Ok x)

prints : (t : List ℕ) (x : Number) → SaysNumber x t → NumberInBounds x → PrintsNumber t (number_datum x)
prints t x h b = record { numeral = h.numeral; written = h.written; gives = (x, h.says, b, refl) }

pub integer_prints : (n : ℤ) → IsWhole n → PrintsNumber (signed_decimal n) (integer n)
integer_prints (pos n) h = prints (digits_of n) (Int (pos n)) (integer_says false n (omega (arith, ints))) h
integer_prints (negsuc n) h = prints (45 ∷ digits_of (suc n)) (Int (negsuc n)) (integer_says true (suc n) (omega (arith, ints))) h

not_zero : (n : ℕ) → (n ≡ 0 → ⊥) → 0 < n
not_zero zero h = absurd (h refl)
not_zero (suc n) h = omega arith

abbrev pub plain_signed : Bool → ℕ → Datum
plain_signed s units = cond (units % 1000000 == 0) (integer (with_sign s (units / 1000000))) (decimal (with_sign s units))

units_print : (s : Bool) (units : ℕ) → units < 10 ^ 26 → PrintsNumber (signed s (units_text units)) (plain_signed s units)
units_print s units h = by (units % 1000000 == 0) refl
  where
    text_with : Bool → List ℕ
    text_with b = signed s (digits_of (units / 1000000) ++ cond b [] (46 ∷ without_last_zeros (drop 1 (digits_of (1000000 + units % 1000000)))))

    by : (b : Bool) → (units % 1000000 == 0) ≡ b → PrintsNumber (text_with b) (cond b (integer (with_sign s (units / 1000000))) (decimal (with_sign s units)))
    by true e =
        let whole : ℕ = units / 1000000 in
        prints (signed s (digits_of whole ++ [])) (Int (with_sign s whole)) (subst (λ t. SaysNumber (Int (with_sign s whole)) (signed s t)) (sym (append-nil (digits_of whole))) (integer_says s whole (omega arith))) (signed_in_bounds Whole s whole (omega arith))
    by false e =
        let whole : ℕ = units / 1000000 in let rest : ℕ = units % 1000000 in
        let some : 0 < rest = not_zero rest (eqb-false rest 0 e) in
        let sum : whole * 1000000 + rest ≡ units = omega arith in
        let p : IsPointed units (digits_of whole) (places rest) = subst (λ n. IsPointed n (digits_of whole) (places rest)) sum (places_pointed whole rest (omega arith) (omega arith) some) in
        let says : SaysNumber (Dec (with_sign s units)) (signed s (digits_of whole ++ (46 ∷ places rest))) = pointed_says s units (digits_of whole) (places rest) p in
        prints (text_with false) (Dec (with_sign s units)) (subst (λ ds. SaysNumber (Dec (with_sign s units)) (signed s (digits_of whole ++ (46 ∷ ds)))) (sym (places_written rest (omega arith))) says) (signed_in_bounds Units s units h)

pub decimal_prints : (m : ℤ) → IsUnits m → PrintsNumber (decimal_text m) (plain_decimal m)
decimal_prints (pos units) h = units_print false units (omega (arith, ints))
decimal_prints (negsuc units) h = units_print true (suc units) (omega (arith, ints))
