-- Exponents that are far out of bounds.
use Rattle.std.proofs.Common.{◌≡◌, ℕ, suc, ◌+◌, ◌-◌, ◌*◌, ◌^◌, ◌<◌, ◌≤◌, ◌∙◌, ap, arith, pow-add, List, length, true, false, ◌==◌}
use Rattle.std.proofs.Math.Nat.{pow-succ', mul-le-mul_right, pow-le-pow_right}
use Rattle.std.specs.List.{list_all}
use Rattle.num_fixed.specs.Nearest.{IsNearestNatural}
use Rattle.num_fixed.specs.inside.Digits.{IsLarge}
use Rattle.num_fixed.specs.Numeral.{number_of}
use Rattle.std.specs.Char.{is_ascii_digit}
use Rattle.num_fixed.proofs.DigitLemmas.{one_large, number_below, power_some, zeros, not_zeros}
use Rattle.num_fixed.proofs.ScaleLemmas.{exact_up}

-- less than half a unit
pub far_down : (r : List ℕ) (up down : ℕ) → list_all is_ascii_digit r ≡ true → length r + up < down → IsNearestNatural (number_of 0 r * 10 ^ up) (10 ^ down) 0
far_down r up down d h =
    let less = number_below r d in
    let some = power_some up in
    let a : (number_of 0 r + 1) * 10 ^ up ≤ 10 ^ length r * 10 ^ up = mul-le-mul_right (10 ^ up) (omega arith) in
    let b = pow-add 10 (length r) up in
    let c : 10 ^ suc (length r + up) ≤ 10 ^ down = pow-le-pow_right {n = 10} (omega arith) {i = suc (length r + up)} {j = down} (omega arith) in
    let p = pow-succ' 10 (length r + up) in
    record { above = omega arith; below = omega arith; even_above = λ q. absurd (omega arith); even_below = λ q. absurd (omega arith) }

-- nothing stays nothing
pub zero_scaled : (r : List ℕ) (up down : ℕ) → list_all (λ b. b == 48) r ≡ true → IsNearestNatural (number_of 0 r * 10 ^ up) (10 ^ down) 0
zero_scaled r up down h =
    let z : number_of 0 r * 10 ^ up ≡ 0 = ap (λ n. n * 10 ^ up) (zeros r h) ∙ omega arith in
    let some = power_some down in
    record { above = omega arith; below = omega arith; even_above = λ q. absurd (omega arith); even_below = λ q. absurd (omega arith) }

pub far_up : (r : List ℕ) (up down : ℕ) → list_all is_ascii_digit r ≡ true → list_all (λ b. b == 48) r ≡ false → down + 26 ≤ up → IsLarge (number_of 0 r * 10 ^ up) (10 ^ down)
far_up r up down d h far =
    let some = not_zeros r d h in
    let p : 10 ^ 26 ≤ 10 ^ (up - down) = pow-le-pow_right {n = 10} (omega arith) {i = 26} {j = up - down} (omega arith) in
    let q : 1 * 10 ^ (up - down) ≤ number_of 0 r * 10 ^ (up - down) = mul-le-mul_right (10 ^ (up - down)) (omega arith) in
    one_large (number_of 0 r * 10 ^ up) (10 ^ down) (number_of 0 r * 10 ^ (up - down)) (power_some down) (exact_up (number_of 0 r) up down (omega arith)) (omega arith)
