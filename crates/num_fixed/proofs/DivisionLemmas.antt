-- Quotients and remainders.
use Rattle.std.proofs.Common.{◌≡◌, ◌≢◌, ◌⊎◌, inl, inr, zero, suc, ◌+◌, ◌*◌, ◌^◌, ◌<◌, ◌≤◌, ℕ, ℤ, pos, negsuc, ◌+ℤ◌, ◌-ℤ◌, ◌*ℤ◌, ◌≤ℤ◌, int_div, int_rem, sym, ◌∙◌, ap, refl, arith, unsigned_abs, FitsSigned}
use Rattle.std.proofs.Math.Nat.{mod-le, div-le_self, mul-le-mul_right}
use Rattle.std.proofs.lemmas.Bool.{cases_order}
use Rattle.std.proofs.lemmas.Int.{ints, quot-rem, rem_below, fits_signed_from_abs, unsigned_abs-mul}
use Rattle.std.specs.Int.{w128}
use Rattle.num_fixed.specs.declared.number.Kind.{Kind}
use Rattle.num_fixed.specs.declared.number.Kind.TheVariants.{Whole, Units}
use Rattle.num_fixed.specs.Bounds.{InBounds}
use Rattle.num_fixed.specs.Quotients.{IsDivided}
use Rattle.num_fixed.proofs.Signs.{abs_some}

-- Rust's own quotient and remainder
pub divided : (a b : ℤ) → b ≢ pos 0 → IsDivided a b (int_div a b) (int_rem a b)
divided (pos a) b some =
    record {
      whole = sym (quot-rem (pos a) b);
      small = rem_below (pos a) b (abs_some b some);
      not_below = λ h. omega (arith, ints);
      not_above = λ h. omega (arith, ints, mod-le a (unsigned_abs b));
    }
divided (negsuc a) b some =
    record {
      whole = sym (quot-rem (negsuc a) b);
      small = rem_below (negsuc a) b (abs_some b some);
      not_below = λ h. absurd (omega (arith, ints));
      not_above = λ h. omega (arith, ints);
    }

-- no quotient or remainder is greater in size than what is divided
quotient_within : (a b : ℤ) → unsigned_abs (int_div a b) ≤ unsigned_abs a
quotient_within (pos a) (pos b) = div-le_self a b
quotient_within (pos a) (negsuc b) = omega (arith, ints, div-le_self a (suc b))
quotient_within (negsuc a) (pos b) = omega (arith, ints, div-le_self (suc a) b)
quotient_within (negsuc a) (negsuc b) = div-le_self (suc a) (suc b)

pub remainder_within : (kind : Kind) (a b : ℤ) → InBounds kind a → InBounds kind (int_rem a b)
remainder_within kind (pos a) b h = (omega (arith, ints, h.0), omega (arith, ints, h.1, mod-le a (unsigned_abs b)))
remainder_within kind (negsuc a) b h = (omega (arith, ints, h.0, mod-le (suc a) (unsigned_abs b)), omega (arith, ints, h.1, h.0))

pub quotient_fits : (a b : ℤ) → unsigned_abs a < 2 ^ 127 → FitsSigned w128 (int_div a b)
quotient_fits a b h = fits_signed_from_abs w128 (int_div a b) (omega (arith, quotient_within a b))

pub in_bounds_below : (kind : Kind) (a : ℤ) → InBounds kind a → unsigned_abs a < 2 ^ 127
in_bounds_below Whole a h = omega (arith, ints, h.0, h.1)
in_bounds_below Units a h = omega (arith, ints, h.0, h.1)

-- a product is no smaller than a factor, but where the other is 0
product_zero : (q b : ℕ) → q * b < b → q ≡ 0
product_zero zero b h = refl
product_zero (suc q) b h = absurd (omega arith)

difference_is : (a q r : ℤ) → a ≡ q +ℤ r → unsigned_abs (a -ℤ r) ≡ unsigned_abs q
difference_is a q r e = let same : a -ℤ r ≡ q = omega (arith, ints) in ap unsigned_abs same

apart : (a r : ℤ) → (pos 0 ≤ℤ a → pos 0 ≤ℤ r) → (a ≤ℤ pos 0 → r ≤ℤ pos 0) → (unsigned_abs (a -ℤ r) + unsigned_abs r ≡ unsigned_abs a) ⊎ (unsigned_abs (a -ℤ r) + unsigned_abs a ≡ unsigned_abs r)
apart (pos a) r p n = let h = p (omega (arith, ints)) in grind (arith, ints)
apart (negsuc a) r p n = let h = n (omega (arith, ints)) in grind (arith, ints)

-- the sizes are divided alike
sizes_divided : (a b q r : ℤ) → IsDivided a b q r → unsigned_abs q * unsigned_abs b + unsigned_abs r ≡ unsigned_abs a
sizes_divided a b q r h =
    let product = difference_is a (q *ℤ b) r h.whole ∙ unsigned_abs-mul q b in
    let small = h.small in
    elim (apart a r h.not_below h.not_above) [
      | inl e ↦ omega arith
      | inr e ↦
          let none = product_zero (unsigned_abs q) (unsigned_abs b) (omega arith) in
          let gone : unsigned_abs q * unsigned_abs b ≡ 0 * unsigned_abs b = ap (λ k. k * unsigned_abs b) none in
          omega arith
    ]

one_quotient : (b q r p s : ℕ) → r < b → s < b → q * b + r ≡ p * b + s → q ≡ p
one_quotient b q r p s u v e = elim (cases_order q p) [
  | inl same ↦ same
  | inr (inl less) ↦ let k : (q + 1) * b ≤ p * b = mul-le-mul_right b (omega arith) in absurd (omega arith)
  | inr (inr more) ↦ let k : (p + 1) * b ≤ q * b = mul-le-mul_right b (omega arith) in absurd (omega arith)
]

-- quotients of the same numbers are of one size
pub one_size : (a b q r p s : ℤ) → IsDivided a b q r → IsDivided a b p s → unsigned_abs q ≡ unsigned_abs p
one_size a b q r p s g h =
    one_quotient (unsigned_abs b) (unsigned_abs q) (unsigned_abs r) (unsigned_abs p) (unsigned_abs s) g.small h.small (sizes_divided a b q r g ∙ sym (sizes_divided a b p s h))

-- two factors of one size that make one product are the same
same_factor : (q p b : ℤ) → 0 < unsigned_abs b → unsigned_abs q ≡ unsigned_abs p → q *ℤ b ≡ p *ℤ b → q ≡ p
same_factor (pos q) (pos p) b some size e = ap pos size
same_factor (negsuc q) (negsuc p) b some size e = omega (arith, ints)
same_factor (pos q) (negsuc p) (pos d) some size e = let k : 0 < suc p * d = omega arith in absurd (omega (arith, ints))
same_factor (pos q) (negsuc p) (negsuc d) some size e = absurd (omega (arith, ints))
same_factor (negsuc q) (pos p) (pos d) some size e = absurd (omega (arith, ints))
same_factor (negsuc q) (pos p) (negsuc d) some size e = absurd (omega (arith, ints))

same_rest : (a r s : ℤ) → (pos 0 ≤ℤ a → pos 0 ≤ℤ r) → (a ≤ℤ pos 0 → r ≤ℤ pos 0) → (pos 0 ≤ℤ a → pos 0 ≤ℤ s) → (a ≤ℤ pos 0 → s ≤ℤ pos 0) → unsigned_abs r ≡ unsigned_abs s → r ≡ s
same_rest (pos a) r s p n q m e = let h = p (omega (arith, ints)) in let k = q (omega (arith, ints)) in omega (arith, ints)
same_rest (negsuc a) r s p n q m e = let h = n (omega (arith, ints)) in let k = m (omega (arith, ints)) in omega (arith, ints)

pub one_division : (a b q r p s : ℤ) → IsDivided a b q r → IsDivided a b p s → (q ≡ p) × (r ≡ s)
one_division a b q r p s g h =
    let size = one_size a b q r p s g h in
    let whole = sizes_divided a b q r g ∙ sym (sizes_divided a b p s h) in
    let products : unsigned_abs q * unsigned_abs b ≡ unsigned_abs p * unsigned_abs b = ap (λ k. k * unsigned_abs b) size in
    let rests : unsigned_abs r ≡ unsigned_abs s = omega arith in
    let rest = same_rest a r s g.not_below g.not_above h.not_below h.not_above rests in
    let small = g.small in
    let product : q *ℤ b ≡ p *ℤ b = let x = g.whole in let y = h.whole in omega (arith, ints) in
    (same_factor q p b (omega arith) size product, rest)
