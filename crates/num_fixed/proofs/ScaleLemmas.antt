-- The same ratio in other terms.
use Rattle.std.proofs.Common.{◌≡◌, ℕ, suc, ◌+◌, ◌-◌, ◌*◌, ◌^◌, ◌<◌, ◌≤◌, sym, ◌∙◌, ap, subst, arith}
use Rattle.std.proofs.Math.Nat.{pow-succ', mul-le-mul_right, mul-le-mul_left, pow-le-pow_right, le_of_mul-le-mul_right}
use Rattle.std.proofs.Common.{pow-add}
use Rattle.std.proofs.Common.{Option, Some, None}
use Rattle.std.specs.Prelude.{IfSome, IfNone, MatchOption}
use Rattle.num_fixed.specs.Nearest.{IsNearestNatural}
use Rattle.num_fixed.specs.inside.Digits.{IsLarge}
use Rattle.num_fixed.proofs.DigitLemmas.{one_large, power_some}

cancel : (a b q : ℕ) → 0 < q → a * q ≡ b * q → a ≡ b
cancel a b q some e =
    let f : a ≤ b = le_of_mul-le-mul_right {k = q} (omega (arith, e)) some in
    let g : b ≤ a = le_of_mul-le-mul_right {k = q} (omega (arith, e)) some in
    omega arith

widened : (n d q m : ℕ) → 0 < q → IsNearestNatural n d m → IsNearestNatural (n * q) (d * q) m
widened n d q m some h = record {
  above = let v : (2 * n) * q ≤ (2 * (m * d) + d) * q = mul-le-mul_right q h.above in omega arith;
  below = let v : (2 * (m * d)) * q ≤ (2 * n + d) * q = mul-le-mul_right q h.below in omega arith;
  even_above = λ e. h.even_above (cancel (2 * n) (2 * (m * d) + d) q some (omega arith));
  even_below = λ e. h.even_below (cancel (2 * (m * d)) (2 * n + d) q some (omega arith));
}

pub exact : (n d : ℕ) → 0 < d → IsNearestNatural (n * d) d n
exact n d some = record { above = omega arith; below = omega arith; even_above = λ e. absurd (omega arith); even_below = λ e. absurd (omega arith) }

-- one zero more
pub one_more : (n i : ℕ) → n * 10 ^ (i + 1) ≡ n * 10 ^ i * 10
one_more n i =
    let s : i + 1 ≡ suc i = omega arith in
    let p = pow-succ' 10 i in
    let e : 10 ^ (i + 1) ≡ 10 * 10 ^ i = ap (λ k. 10 ^ k) s ∙ p in
    ap (λ k. n * k) e ∙ omega arith

-- once it is out of bounds it stays so
pub stays_large : (n i z : ℕ) → i < z → 10 ^ 26 ≤ n * 10 ^ i * 10 → 10 ^ 26 ≤ n * 10 ^ z
stays_large n i z h big =
    let p : 10 ^ (i + 1) ≤ 10 ^ z = pow-le-pow_right {n = 10} (omega arith) {i = i + 1} {j = z} (omega arith) in
    let q : n * 10 ^ (i + 1) ≤ n * 10 ^ z = mul-le-mul_left n p in
    omega (arith, one_more n i)

narrowed : (n d q m : ℕ) → 0 < q → IsNearestNatural (n * q) (d * q) m → IsNearestNatural n d m
narrowed n d q m some h = record {
  above = le_of_mul-le-mul_right {k = q} (omega (arith, h.above)) some;
  below = le_of_mul-le-mul_right {k = q} (omega (arith, h.below)) some;
  even_above = λ e. h.even_above (let v : (2 * n) * q ≡ (2 * (m * d) + d) * q = ap (λ x. x * q) e in omega arith);
  even_below = λ e. h.even_below (let v : (2 * (m * d)) * q ≡ (2 * n + d) * q = ap (λ x. x * q) e in omega arith);
}

-- one power in two parts
power_parts : (low high : ℕ) → low ≤ high → 10 ^ high ≡ 10 ^ (high - low) * 10 ^ low
power_parts low high h = let e : high ≡ (high - low) + low = omega arith in ap (λ k. 10 ^ k) e ∙ pow-add 10 (high - low) low

pub scaled_down : (r : Option ℕ) (n up down : ℕ) → up < down → IfSome r (λ m. IsNearestNatural n (10 ^ (down - up)) m × (m < 10 ^ 26)) → IfSome r (λ m. IsNearestNatural (n * 10 ^ up) (10 ^ down) m × (m < 10 ^ 26))
scaled_down None n up down h v = tt
scaled_down (Some m) n up down h v = (subst (λ d. IsNearestNatural (n * 10 ^ up) d m) (sym (power_parts up down (omega arith))) (widened n (10 ^ (down - up)) (10 ^ up) m (power_some up) v.0), v.1)

pub large_down : (r : Option ℕ) (n up down : ℕ) → up < down → IfNone r (IsLarge n (10 ^ (down - up))) → IfNone r (IsLarge (n * 10 ^ up) (10 ^ down))
large_down (Some x) n up down h v = tt
large_down None n up down h v = λ m k. v m (narrowed n (10 ^ (down - up)) (10 ^ up) m (power_some up) (subst (λ d. IsNearestNatural (n * 10 ^ up) d m) (power_parts up down (omega arith)) k))

-- with the zeros that are left it is a whole number
pub exact_up : (n up down : ℕ) → down ≤ up → IsNearestNatural (n * 10 ^ up) (10 ^ down) (n * 10 ^ (up - down))
exact_up n up down h =
    let e : n * 10 ^ up ≡ n * 10 ^ (up - down) * 10 ^ down = ap (λ k. n * k) (power_parts down up h) ∙ omega arith in
    subst (λ k. IsNearestNatural k (10 ^ down) (n * 10 ^ (up - down))) (sym e) (exact (n * 10 ^ (up - down)) (10 ^ down) (power_some down))

pub scaled_up : (r : Option ℕ) (n k up down : ℕ) → down ≤ up → n ≡ k → MatchOption r (10 ^ 26 ≤ n * 10 ^ (up - down)) (λ m. (m ≡ n * 10 ^ (up - down)) × (m < 10 ^ 26)) → IfSome r (λ m. IsNearestNatural (k * 10 ^ up) (10 ^ down) m × (m < 10 ^ 26))
scaled_up None n k up down h e v = tt
scaled_up (Some m) n k up down h e v = (subst (λ x. IsNearestNatural (x * 10 ^ up) (10 ^ down) m) e (subst (IsNearestNatural (n * 10 ^ up) (10 ^ down)) (sym v.0) (exact_up n up down h)), v.1)

pub large_up : (r : Option ℕ) (n k up down : ℕ) → down ≤ up → n ≡ k → MatchOption r (10 ^ 26 ≤ n * 10 ^ (up - down)) (λ m. (m ≡ n * 10 ^ (up - down)) × (m < 10 ^ 26)) → IfNone r (IsLarge (k * 10 ^ up) (10 ^ down))
large_up (Some x) n k up down h e v = tt
large_up None n k up down h e v = one_large (k * 10 ^ up) (10 ^ down) (k * 10 ^ (up - down)) (power_some down) (exact_up k up down h) (subst (λ x. 10 ^ 26 ≤ x * 10 ^ (up - down)) e v)

pub large_first : (n up down : ℕ) → down ≤ up → 10 ^ 26 ≤ n → IsLarge (n * 10 ^ up) (10 ^ down)
large_first n up down h big = one_large (n * 10 ^ up) (10 ^ down) (n * 10 ^ (up - down)) (power_some down) (exact_up n up down h) (
    let some = power_some (up - down) in
    let v : n * 1 ≤ n * 10 ^ (up - down) = mul-le-mul_left n (omega arith) in
    omega arith)

pub ruleset zero_steps = (one_more, stays_large)
