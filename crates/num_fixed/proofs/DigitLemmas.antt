-- The number that digits spell. For other crates too.
use Rattle.std.proofs.Common.{◌≡◌, inl, inr, ℕ, zero, suc, ◌+◌, ◌-◌, ◌*◌, ◌%◌, ◌^◌, ◌<◌, ◌≤◌, List, ◌∷◌, [], ◌++◌, length, get_or, drop, sym, ◌∙◌, ap, subst, refl, arith, true, false, ◌==◌}
use Rattle.std.proofs.lemmas.List.{at_drop_more}
use Rattle.std.proofs.lemmas.Bool.{and_parts, eqb-true, cases_Bool, eqb-false, and_cases, cases_eq, cases_lt, cond-true, cond-false}
use Rattle.std.proofs.lemmas.Bool.Decides.{nat_tests}
use Rattle.std.proofs.Math.Nat.{pow-succ', mul-le-mul_right}
use Rattle.std.specs.List.{list_all}
use Rattle.num_fixed.specs.inside.Digits.{IsRest, IsLarge, Against, rounded_by}
use Rattle.num_fixed.specs.Numeral.{number_of}
use Rattle.std.specs.Char.{is_ascii_digit}
use Rattle.num_fixed.specs.declared.digits.Rest.{Rest}
use Rattle.num_fixed.specs.declared.digits.Rest.TheVariants as rest
use Rattle.num_fixed.specs.Nearest.{IsNearestNatural}
use Rattle.num_fixed.proofs.NearestLemmas.{one_natural}

number_grows : (n : ℕ) (r : List ℕ) → n ≤ number_of n r
number_grows n [] = omega arith
number_grows n (b ∷ r) = omega (arith, number_grows (n * 10 + (b - 48)) r)

pub large_now : (n i : ℕ) (xs : List ℕ) → i < length xs → n * 10 + (get_or xs i 0 - 48) ≤ number_of n (drop i xs)
large_now n i xs h = omega (arith, at_drop_more (number_of n) xs i 0 h, number_grows (n * 10 + (get_or xs i 0 - 48)) (drop (i + 1) xs))

power : (n : ℕ) → 10 ^ suc n ≡ 10 * 10 ^ n
power n = pow-succ' 10 n

-- what stands before the digits moves up by their number
pub number_behind : (n : ℕ) (r : List ℕ) → number_of n r ≡ n * 10 ^ length r + number_of 0 r
number_behind n [] = omega arith
number_behind n (b ∷ r) =
    let one = number_behind (n * 10 + (b - 48)) r in
    let two = number_behind (0 * 10 + (b - 48)) r in
    let p = power (length r) in
    let e : (n * 10 + (b - 48)) * 10 ^ length r ≡ n * (10 * 10 ^ length r) + (b - 48) * 10 ^ length r = omega arith in
    let f : (0 * 10 + (b - 48)) * 10 ^ length r ≡ (b - 48) * 10 ^ length r = omega arith in
    let g : n * 10 ^ length (b ∷ r) ≡ n * (10 * 10 ^ length r) = ap (λ k. n * k) p in
    omega arith

pub number-append : (n : ℕ) (a b : List ℕ) → number_of n (a ++ b) ≡ number_of (number_of n a) b
number-append n [] b = refl
number-append n (x ∷ a) b = number-append (n * 10 + (x - 48)) a b

digit_small : (b : ℕ) → is_ascii_digit b ≡ true → b - 48 < 10
digit_small b h = grind (arith, nat_tests)

digit_least : (b : ℕ) → is_ascii_digit b ≡ true → 48 ≤ b
digit_least b h = grind (arith, nat_tests)

pub number_below : (r : List ℕ) → list_all is_ascii_digit r ≡ true → number_of 0 r < 10 ^ length r
number_below [] h = omega arith
number_below (b ∷ r) h =
    let both = and_parts (is_ascii_digit b) (list_all is_ascii_digit r) h in
    let less = number_below r both.1 in
    let small = digit_small b both.0 in
    let two = number_behind (0 * 10 + (b - 48)) r in
    let p = power (length r) in
    let q : (0 * 10 + (b - 48)) * 10 ^ length r ≤ 9 * 10 ^ length r = mul-le-mul_right (10 ^ length r) (omega arith) in
    omega arith

pub zeros : (r : List ℕ) → list_all (λ b. b == 48) r ≡ true → number_of 0 r ≡ 0
zeros [] h = refl
zeros (b ∷ r) h =
    let both = and_parts (b == 48) (list_all (λ b. b == 48) r) h in
    let e : 0 * 10 + (b - 48) ≡ 0 = omega (arith, eqb-true b 48 both.0) in
    ap (λ n. number_of n r) e ∙ zeros r both.1

pub not_zeros : (r : List ℕ) → list_all is_ascii_digit r ≡ true → list_all (λ b. b == 48) r ≡ false → 0 < number_of 0 r
not_zeros [] d h = cc
not_zeros (b ∷ r) d h =
    let both = and_parts (is_ascii_digit b) (list_all is_ascii_digit r) d in
    elim (and_cases (b == 48) (list_all (λ b. b == 48) r) h) [
      | inl e ↦ omega (arith, number_grows (0 * 10 + (b - 48)) r, digit_least b both.0, eqb-false b 48 e)
      | inr e ↦ omega (arith, number_behind (0 * 10 + (b - 48)) r, not_zeros r both.1 e)
    ]

first_digit : (b : ℕ) (r : List ℕ) → number_of 0 (b ∷ r) ≡ (b - 48) * 10 ^ length r + number_of 0 r
first_digit b r =
    let two = number_behind (0 * 10 + (b - 48)) r in
    let f : (0 * 10 + (b - 48)) * 10 ^ length r ≡ (b - 48) * 10 ^ length r = omega arith in
    omega arith

pub rest_below : (b : ℕ) (r : List ℕ) → list_all is_ascii_digit r ≡ true → b < 53 → 2 * number_of 0 (b ∷ r) < 10 ^ length (b ∷ r)
rest_below b r d h =
    let less = number_below r d in
    let f = first_digit b r in
    let p = power (length r) in
    let q : (b - 48) * 10 ^ length r ≤ 4 * 10 ^ length r = mul-le-mul_right (10 ^ length r) (omega arith) in
    omega arith

pub rest_half : (b : ℕ) (r : List ℕ) → b ≡ 53 → list_all (λ b. b == 48) r ≡ true → 2 * number_of 0 (b ∷ r) ≡ 10 ^ length (b ∷ r)
rest_half b r e h =
    let f = first_digit b r in
    let z = zeros r h in
    let p = power (length r) in
    let q : (b - 48) * 10 ^ length r ≡ 5 * 10 ^ length r = ap (λ k. k * 10 ^ length r) (omega arith) in
    omega arith

pub rest_above : (b : ℕ) (r : List ℕ) → list_all is_ascii_digit r ≡ true → 53 ≤ b → (b ≡ 53 → list_all (λ b. b == 48) r ≡ false) → 10 ^ length (b ∷ r) < 2 * number_of 0 (b ∷ r)
rest_above b r d low h =
    let f = first_digit b r in
    let p = power (length r) in
    elim (cases_eq b 53) [
      | inl e ↦
          let some = not_zeros r d (h e) in
          let q : (b - 48) * 10 ^ length r ≡ 5 * 10 ^ length r = ap (λ k. k * 10 ^ length r) (omega arith) in
          omega arith
      | inr e ↦
          let less = number_below r d in
          let q : 6 * 10 ^ length r ≤ (b - 48) * 10 ^ length r = mul-le-mul_right (10 ^ length r) (omega arith) in
          omega arith
    ]

-- rounding by what the last digits are
nearest_rounded : (n p kept last : ℕ) (rest : Rest) → n ≡ kept * p + last → last < p → Against rest last p → IsNearestNatural n p (rounded_by rest kept)
nearest_rounded n p kept last rest.Above e l h = record { above = omega arith; below = omega arith; even_above = λ q. absurd (omega arith); even_below = λ q. absurd (omega arith) }
nearest_rounded n p kept last rest.Below e l h = record { above = omega arith; below = omega arith; even_above = λ q. absurd (omega arith); even_below = λ q. absurd (omega arith) }
nearest_rounded n p kept last rest.Half e l h = elim (cases_Bool (kept % 2 == 1)) [
  | inl odd ↦
      let v = cond-true (kept % 2 == 1) (kept + 1) kept odd in
      let o = eqb-true (kept % 2) 1 odd in
      subst (IsNearestNatural n p) (sym v) (record { above = omega arith; below = omega arith; even_above = λ q. absurd (omega arith); even_below = λ q. omega arith })
  | inr even ↦
      let v = cond-false (kept % 2 == 1) (kept + 1) kept even in
      let o = eqb-false (kept % 2) 1 even in
      let z : kept % 2 ≡ 0 = omega (arith, o) in
      subst (IsNearestNatural n p) (sym v) (record { above = omega arith; below = omega arith; even_above = λ q. z; even_below = λ q. absurd (omega arith) })
]

-- digits split before the last few
pub split_number : (front back : List ℕ) → number_of 0 (front ++ back) ≡ number_of 0 front * 10 ^ length back + number_of 0 back
split_number front back = number-append 0 front back ∙ number_behind (number_of 0 front) back

none_large : (n p kept : ℕ) → 0 < p → kept * p ≤ n → 10 ^ 26 ≤ kept → IsLarge n p
none_large n p kept some low big m h =
    elim (cases_lt m (10 ^ 26)) [
      | inl less ↦
          let q : (m + 1) * p ≤ kept * p = mul-le-mul_right p (omega arith) in
          absurd (omega (arith, h.above))
      | inr ok ↦ ok
    ]

pub one_large : (n p k : ℕ) → 0 < p → IsNearestNatural n p k → 10 ^ 26 ≤ k → IsLarge n p
one_large n p k some h big m v = omega (arith, one_natural n p k m some h v)

pub power_some : (n : ℕ) → 0 < 10 ^ n
power_some zero = omega arith
power_some (suc n) = omega (arith, power n, power_some n)

power_more : (k n : ℕ) → 10 ^ n ≤ 10 ^ (n + k)
power_more zero n = let e : n + 0 ≡ n = omega arith in omega (arith, ap (λ v. 10 ^ v) e)
power_more (suc k) n = let e : n + suc k ≡ suc (n + k) = omega arith in omega (arith, ap (λ v. 10 ^ v) e, power (n + k), power_more k n)

pub none_kept : (r : List ℕ) (last : ℕ) → list_all is_ascii_digit r ≡ true → length r < last → IsNearestNatural (number_of 0 r) (10 ^ last) 0
none_kept r last d h =
    let less = number_below r d in
    let e : length r + 1 + (last - (length r + 1)) ≡ last = omega arith in
    let more = power_more (last - (length r + 1)) (length r + 1) in
    let same = ap (λ v. 10 ^ v) e in
    let s : length r + 1 ≡ suc (length r) = omega arith in
    let one = ap (λ v. 10 ^ v) s in
    let p = power (length r) in
    record { above = omega arith; below = omega arith; even_above = λ q. absurd (omega arith); even_below = λ q. absurd (omega arith) }

-- what nearest_of gives
pub rounded_fits : (front back : List ℕ) (rest : Rest) (kept n : ℕ) → kept ≡ number_of 0 front → list_all is_ascii_digit back ≡ true → IsRest back rest → n ≡ rounded_by rest kept → IsNearestNatural (number_of 0 (front ++ back)) (10 ^ length back) n
rounded_fits front back rest kept n k d r e =
    subst (IsNearestNatural (number_of 0 (front ++ back)) (10 ^ length back)) (sym e)
    (nearest_rounded (number_of 0 (front ++ back)) (10 ^ length back) kept (number_of 0 back) rest (split_number front back ∙ ap (λ v. v * 10 ^ length back + number_of 0 back) (sym k)) (number_below back d) r)

pub front_large : (front back : List ℕ) → 10 ^ 26 ≤ number_of 0 front → IsLarge (number_of 0 (front ++ back)) (10 ^ length back)
front_large front back h = none_large (number_of 0 (front ++ back)) (10 ^ length back) (number_of 0 front) (power_some (length back)) (omega (arith, split_number front back)) h

-- digits in two pieces
pub number_both : (a b : List ℕ) (n m : ℕ) → n ≡ number_of 0 a → m ≡ number_of n b → m ≡ number_of 0 (a ++ b)
number_both a b n m e f = f ∙ ap (λ v. number_of v b) e ∙ sym (number-append 0 a b)

pub first_large : (a b : List ℕ) → 10 ^ 26 ≤ number_of 0 a → 10 ^ 26 ≤ number_of 0 (a ++ b)
first_large a b h = omega (arith, number-append 0 a b, number_grows (number_of 0 a) b)

pub both_large : (a b : List ℕ) (n : ℕ) → n ≡ number_of 0 a → 10 ^ 26 ≤ number_of n b → 10 ^ 26 ≤ number_of 0 (a ++ b)
both_large a b n e h = omega (arith, number-append 0 a b, ap (λ v. number_of v b) e)

pub ruleset number_steps = (number_both, first_large, both_large)
