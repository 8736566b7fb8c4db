-- Numbers by their sign and size.
use Rattle.std.proofs.Common.{◌≡◌, ◌≢◌, ◌<◌, ℕ, zero, suc, ◌*◌, ℤ, pos, negsuc, ◌*ℤ◌, ◌-ℤ◌, neg_ℤ, sym, ◌∙◌, ap, subst, refl, arith, Bool, true, false, unsigned_abs}
use Rattle.std.proofs.Math.IntN.{neg_ℤ-+ℤ, neg_ℤ-neg_ℤ, *ℤ_comm}
use Rattle.num_fixed.specs.Signs.{with_sign, is_negative, differ}

pub neg-*ℤ : (a b : ℤ) → neg_ℤ a *ℤ b ≡ neg_ℤ (a *ℤ b)
neg-*ℤ (pos zero) (pos d) = let e : 0 * d ≡ 0 = omega arith in ap pos e ∙ sym (ap (λ v. neg_ℤ (pos v)) e)
neg-*ℤ (pos zero) (negsuc d) = let e : 0 * suc d ≡ 0 = omega arith in ap (λ v. neg_ℤ (pos v)) e ∙ sym (ap (λ v. neg_ℤ (neg_ℤ (pos v))) e)
neg-*ℤ (pos (suc n)) (pos d) = refl
neg-*ℤ (pos (suc n)) (negsuc d) = sym (neg_ℤ-neg_ℤ (pos (suc n * suc d)))
neg-*ℤ (negsuc n) (pos d) = sym (neg_ℤ-neg_ℤ (pos (suc n * d)))
neg-*ℤ (negsuc n) (negsuc d) = refl

pub *ℤ-neg : (a b : ℤ) → a *ℤ neg_ℤ b ≡ neg_ℤ (a *ℤ b)
*ℤ-neg a b = *ℤ_comm a (neg_ℤ b) ∙ neg-*ℤ b a ∙ ap neg_ℤ (*ℤ_comm b a)

pub product_signed : (s t : Bool) (k d : ℕ) → with_sign (differ s t) k *ℤ with_sign t d ≡ with_sign s (k * d)
product_signed false false k d = refl
product_signed false true k d = neg-*ℤ (pos k) (neg_ℤ (pos d)) ∙ ap neg_ℤ (*ℤ-neg (pos k) (pos d)) ∙ neg_ℤ-neg_ℤ (pos (k * d))
product_signed true false k d = neg-*ℤ (pos k) (pos d)
product_signed true true k d = *ℤ-neg (pos k) (pos d)

pub abs-neg : (z : ℤ) → unsigned_abs (neg_ℤ z) ≡ unsigned_abs z
abs-neg (pos zero) = refl
abs-neg (pos (suc n)) = refl
abs-neg (negsuc n) = refl

-- the distance of two numbers of one sign
pub distance_signed : (s : Bool) (n m : ℕ) → unsigned_abs (with_sign s n -ℤ with_sign s m) ≡ unsigned_abs (pos n -ℤ pos m)
distance_signed false n m = refl
distance_signed true n m = ap unsigned_abs (sym (neg_ℤ-+ℤ (pos n) (neg_ℤ (pos m)))) ∙ abs-neg (pos n -ℤ pos m)

pub abs_signed : (s : Bool) (m : ℕ) → unsigned_abs (with_sign s m) ≡ m
abs_signed false m = refl
abs_signed true m = abs-neg (pos m)

pub signed_abs : (z : ℤ) → with_sign (is_negative z) (unsigned_abs z) ≡ z
signed_abs (pos n) = refl
signed_abs (negsuc n) = refl

pub abs_some : (d : ℤ) → d ≢ pos 0 → 0 < unsigned_abs d
abs_some (pos zero) h = absurd (h refl)
abs_some (pos (suc n)) h = omega arith
abs_some (negsuc n) h = omega arith

-- what holds of the numbers put together again holds of the numbers
pub at_signs : (P : ℤ → ℤ → Type 0) (n d : ℤ) → P (with_sign (is_negative n) (unsigned_abs n)) (with_sign (is_negative d) (unsigned_abs d)) → P n d
at_signs P n d h = subst (P n) (signed_abs d) (subst (λ z. P z (with_sign (is_negative d) (unsigned_abs d))) (signed_abs n) h)
