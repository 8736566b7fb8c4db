-- One whole number is nearest to a ratio.
use Rattle.std.proofs.Common.{◌≡◌, ◌≢◌, ◌⊎◌, inl, inr, ◌<◌, ℕ, zero, suc, ◌+◌, ◌-◌, ◌*◌, ◌/◌, ◌%◌, ℤ, pos, negsuc, ◌*ℤ◌, ◌-ℤ◌, ◌+ℤ◌, neg_ℤ, sym, ◌∙◌, ap, subst, refl, arith, Bool, true, false, unsigned_abs}
use Rattle.std.proofs.lemmas.Int.{ints}
use Rattle.std.proofs.lemmas.Bool.{cases_order, cases_eq}
use Rattle.std.proofs.lemmas.Nat.{div-add-mod'}
use Rattle.std.proofs.Math.Nat.{mod-lt}
use Rattle.std.proofs.Math.IntN.{neg_ℤ-+ℤ, neg_ℤ-neg_ℤ}
use Rattle.num_fixed.specs.Nearest.{IsNearest, IsNearestNatural}
use Rattle.num_fixed.specs.Signs.{with_sign, is_negative, differ}
use Rattle.num_fixed.proofs.Signs.{neg-*ℤ, *ℤ-neg, product_signed, distance_signed, abs-neg, abs_signed, abs_some, at_signs}

distance_is : (a b : ℕ) → (unsigned_abs (pos a -ℤ pos b) + b ≡ a) ⊎ (unsigned_abs (pos a -ℤ pos b) + a ≡ b)
distance_is a b = grind (arith, ints)

gap : (s t : Bool) (n d k : ℕ) → unsigned_abs (with_sign s n -ℤ with_sign (differ s t) k *ℤ with_sign t d) ≡ unsigned_abs (pos n -ℤ pos (k * d))
gap s t n d k = ap (λ z. unsigned_abs (with_sign s n -ℤ z)) (product_signed s t k d) ∙ distance_signed s n (k * d)

pub nearest_signed : (s t : Bool) (n d k : ℕ) → IsNearestNatural n d k → IsNearest (with_sign s n) (with_sign t d) (with_sign (differ s t) k)
nearest_signed s t n d k h =
    let g = gap s t n d k in
    let a = abs_signed (differ s t) k in
    let b = abs_signed t d in
    let above = h.above in
    let below = h.below in
    elim (distance_is n (k * d)) [
      | inl e ↦ record { close = omega arith; even = λ q. ap (λ v. v % 2) a ∙ h.even_above (omega arith) }
      | inr e ↦ record { close = omega arith; even = λ q. ap (λ v. v % 2) a ∙ h.even_below (omega arith) }
    ]

-- what is nearest to a ratio of naturals is one
record IsNatural (n d : ℕ) (m : ℤ) : Type 0 where
  size : ℕ
  is : m ≡ pos size
  nearest : IsNearestNatural n d size

natural : (n d : ℕ) (m : ℤ) → 0 < d → IsNearest (pos n) (pos d) m → IsNatural n d m
natural n d (pos k) some h =
    let close = h.close in
    record {
      size = k;
      is = refl;
      nearest = elim (distance_is n (k * d)) [
        | inl e ↦ record { above = omega arith; below = omega arith; even_above = λ q. h.even (omega arith); even_below = λ q. h.even (omega arith) }
        | inr e ↦ record { above = omega arith; below = omega arith; even_above = λ q. h.even (omega arith); even_below = λ q. h.even (omega arith) }
      ];
    }
natural n d (negsuc k) some h =
    let far : unsigned_abs (pos n -ℤ negsuc k *ℤ pos d) ≡ n + suc k * d = ap (λ z. unsigned_abs (pos n +ℤ z)) (neg_ℤ-neg_ℤ (pos (suc k * d))) in
    absurd (omega (arith, h.close, far))

-- the same ratio and number, turned round
dividend_turned : (n d m : ℤ) → IsNearest n d m → IsNearest (neg_ℤ n) d (neg_ℤ m)
dividend_turned n d m h =
    let e : unsigned_abs (neg_ℤ n -ℤ neg_ℤ m *ℤ d) ≡ unsigned_abs (n -ℤ m *ℤ d) =
    ap (λ z. unsigned_abs (neg_ℤ n -ℤ z)) (neg-*ℤ m d) ∙ ap unsigned_abs (sym (neg_ℤ-+ℤ n (neg_ℤ (m *ℤ d)))) ∙ abs-neg (n -ℤ m *ℤ d) in
    record { close = omega (arith, h.close); even = λ q. ap (λ v. v % 2) (abs-neg m) ∙ h.even (omega arith) }

divisor_turned : (n d m : ℤ) → IsNearest n d m → IsNearest n (neg_ℤ d) (neg_ℤ m)
divisor_turned n d m h =
    let e : unsigned_abs (n -ℤ neg_ℤ m *ℤ neg_ℤ d) ≡ unsigned_abs (n -ℤ m *ℤ d) =
    ap (λ z. unsigned_abs (n -ℤ z)) (neg-*ℤ m (neg_ℤ d) ∙ ap neg_ℤ (*ℤ-neg m d) ∙ neg_ℤ-neg_ℤ (m *ℤ d)) in
    record { close = omega (arith, h.close, abs-neg d); even = λ q. ap (λ v. v % 2) (abs-neg m) ∙ h.even (omega (arith, abs-neg d)) }

turned : (s : Bool) → ℤ → ℤ
turned false z = z
turned true z = neg_ℤ z

pub natural_of_nearest : (s t : Bool) (n d : ℕ) (m : ℤ) → 0 < d → IsNearest (with_sign s n) (with_sign t d) m → (k : ℕ) × (m ≡ with_sign (differ s t) k) × IsNearestNatural n d k
natural_of_nearest false false n d m some h = let v = natural n d m some h in (v.size, v.is, v.nearest)
natural_of_nearest true false n d m some h =
    let v = natural n d (neg_ℤ m) some (subst (λ z. IsNearest z (pos d) (neg_ℤ m)) (neg_ℤ-neg_ℤ (pos n)) (dividend_turned _ _ m h)) in
    (v.size, sym (neg_ℤ-neg_ℤ m) ∙ ap neg_ℤ v.is, v.nearest)
natural_of_nearest false true n d m some h =
    let v = natural n d (neg_ℤ m) some (subst (λ z. IsNearest (pos n) z (neg_ℤ m)) (neg_ℤ-neg_ℤ (pos d)) (divisor_turned _ _ m h)) in
    (v.size, sym (neg_ℤ-neg_ℤ m) ∙ ap neg_ℤ v.is, v.nearest)
natural_of_nearest true true n d m some h =
    let v = natural n d m some (subst (IsNearest (pos n) (pos d)) (neg_ℤ-neg_ℤ m)
    (subst (λ z. IsNearest (pos n) z (neg_ℤ (neg_ℤ m))) (neg_ℤ-neg_ℤ (pos d)) (divisor_turned _ _ (neg_ℤ m)
    (subst (λ z. IsNearest z (neg_ℤ (pos d)) (neg_ℤ m)) (neg_ℤ-neg_ℤ (pos n)) (dividend_turned _ _ m h))))) in
    (v.size, v.is, v.nearest)

-- no two naturals are nearest
one_apart : (n d k j : ℕ) → 0 < d → IsNearestNatural n d k → IsNearestNatural n d (k + 1 + j) → ⊥
one_apart n d k zero some a b =
    let above = a.above in
    let below = b.below in
    let low : k % 2 ≡ 0 = a.even_above (omega arith) in
    let high : (k + 1 + 0) % 2 ≡ 0 = b.even_below (omega arith) in
    omega arith
one_apart n d k (suc j) some a b =
    let above = a.above in
    let below = b.below in
    omega arith

pub one_natural : (n d k l : ℕ) → 0 < d → IsNearestNatural n d k → IsNearestNatural n d l → k ≡ l
one_natural n d k l some a b = elim (cases_order k l) [
  | inl e ↦ e
  | inr (inl less) ↦ let e : l ≡ k + 1 + (l - (k + 1)) = omega arith in absurd (one_apart n d k (l - (k + 1)) some a (subst (IsNearestNatural n d) e b))
  | inr (inr more) ↦ let e : k ≡ l + 1 + (k - (l + 1)) = omega arith in absurd (one_apart n d l (k - (l + 1)) some b (subst (IsNearestNatural n d) e a))
]

one_signed : (s t : Bool) (n d : ℕ) (l m : ℤ) → 0 < d → IsNearest (with_sign s n) (with_sign t d) l → IsNearest (with_sign s n) (with_sign t d) m → l ≡ m
one_signed s t n d l m some a b =
    let x = natural_of_nearest s t n d l some a in
    let y = natural_of_nearest s t n d m some b in
    x.1 ∙ ap (with_sign (differ s t)) (one_natural n d x.0 y.0 some x.2 y.2) ∙ sym y.1

pub one_nearest : (n d l m : ℤ) → d ≢ pos 0 → IsNearest n d l → IsNearest n d m → l ≡ m
one_nearest n d l m some = at_signs (λ x y. IsNearest x y l → IsNearest x y m → l ≡ m) n d (one_signed (is_negative n) (is_negative d) (unsigned_abs n) (unsigned_abs d) l m (abs_some d some))

-- some natural is nearest
some_natural : (n d : ℕ) → 0 < d → (k : ℕ) × IsNearestNatural n d k
some_natural n d some =
    let split = div-add-mod' n d in
    let small = mod-lt n some in
    let next : (n / d + 1) * d ≡ n / d * d + d = omega arith in
    elim (cases_order (2 * (n % d)) d) [
      | inl half ↦ elim (cases_eq (n / d % 2) 0) [
        | inl e ↦ (n / d, record { above = omega arith; below = omega arith; even_above = λ q. e; even_below = λ q. e })
        | inr o ↦ let e : (n / d + 1) % 2 ≡ 0 = omega arith in (n / d + 1, record { above = omega arith; below = omega arith; even_above = λ q. e; even_below = λ q. e })
      ]
      | inr (inl less) ↦ (n / d, record { above = omega arith; below = omega arith; even_above = λ q. absurd (omega arith); even_below = λ q. absurd (omega arith) })
      | inr (inr more) ↦ (n / d + 1, record { above = omega arith; below = omega arith; even_above = λ q. absurd (omega arith); even_below = λ q. absurd (omega arith) })
    ]

pub some_nearest : (n d : ℤ) → d ≢ pos 0 → (m : ℤ) × IsNearest n d m
some_nearest n d some =
    let k = some_natural (unsigned_abs n) (unsigned_abs d) (abs_some d some) in
    let s = is_negative n in
    let t = is_negative d in
    (with_sign (differ s t) k.0, at_signs (λ x y. IsNearest x y (with_sign (differ s t) k.0)) n d (nearest_signed s t (unsigned_abs n) (unsigned_abs d) k.0 k.1))
