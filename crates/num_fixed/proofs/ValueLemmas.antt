-- The functions give what their relations hold of. For other crates too.
use Rattle.std.proofs.Common.{◌≡◌, ◌≢◌, ◌⊎◌, inl, inr, ◌<◌, ℕ, zero, suc, ◌+◌, ◌*◌, ◌/◌, ◌%◌, ◌^◌, ◌==◌, nat_lt, ℤ, pos, negsuc, ◌+ℤ◌, ◌*ℤ◌, neg_ℤ, int_div, int_rem, unsigned_abs, true, false, cond, ◌&&◌, List, length, Option, Some, None, is_none, refl, sym, ◌∙◌, subst, arith}
use Rattle.std.specs.Prelude.{◌↔◌}
use Rattle.std.proofs.lemmas.Bool.{cond_both, cases_Bool, ltb-true, ltb-false, eqb-true, eqb-false}
use Rattle.std.proofs.lemmas.Int.{ints}
use Rattle.std.proofs.lemmas.Nat.{div-add-mod'}
use Rattle.std.proofs.Math.Nat.{mod-lt, add-mul}
use Rattle.num_fixed.specs.Bounds.{InBounds, NumberInBounds, IsOver}
use Rattle.num_fixed.specs.Laws.{ToldBy, IsMet, IsSingle}
use Rattle.num_fixed.specs.Nearest.{IsNearest, IsNearestNatural}
use Rattle.num_fixed.specs.Numeral.{Sign, Numeral, Says, IsOutOfBounds, frac_digits, is_minus, number_of, lowered}
use Rattle.num_fixed.specs.Quotients.{IsDivided, IsProduct, IsTruncated, IsRemainder}
use Rattle.num_fixed.specs.Rounding.{units_of, IsFloor, IsCeiling, IsRoundedUp, IsRoundedEven}
use Rattle.num_fixed.specs.Signs.{with_sign, is_negative, differ}
use Rattle.num_fixed.specs.Totals.{Tally, IsSum}
use Rattle.num_fixed.specs.Values.{in_bounds, number_in_bounds, near_natural, near, product, whole_of, floor_of, ceiling_of, rounded_up, rounded_even, sum_of, raised_digits, units_said, said}
use Rattle.num_fixed.specs.declared.number.Kind.{Kind}
use Rattle.num_fixed.specs.declared.number.Kind.TheVariants.{Whole, Units}
use Rattle.num_fixed.specs.declared.number.Number.{Number}
use Rattle.num_fixed.specs.declared.number.Number.TheVariants.{Int, Dec}
use Rattle.num_fixed.proofs.DivisionLemmas.{divided, one_division}
use Rattle.num_fixed.proofs.NearestLemmas.{nearest_signed, one_nearest}
use Rattle.num_fixed.proofs.NumeralLemmas.{ratio_some, one_number_said}
use Rattle.num_fixed.proofs.RoundingLemmas.{floor_is}
use Rattle.num_fixed.proofs.Signs.{abs_some, at_signs}

-- ---- bounds

pub inside : (kind : Kind) (n : ℤ) → in_bounds kind n ≡ true → InBounds kind n
inside kind (pos n) h = let k = ltb-true _ _ h in (omega (arith, ints), omega (arith, ints))
inside kind (negsuc n) h = let k = ltb-true _ _ h in (omega (arith, ints), omega (arith, ints))

pub outside : (kind : Kind) (n : ℤ) → in_bounds kind n ≡ false → ¬ InBounds kind n
outside kind (pos n) h b = let k = ltb-false _ _ h in omega (arith, ints)
outside kind (negsuc n) h b = let k = ltb-false _ _ h in omega (arith, ints)

pub tested_inside : (kind : Kind) (n : ℤ) → (in_bounds kind n ≡ true) ↔ InBounds kind n
tested_inside kind n = (inside kind n, back)
  where
    back : InBounds kind n → in_bounds kind n ≡ true
    back h = elim (cases_Bool (in_bounds kind n)) [ inl e ↦ e | inr e ↦ absurd (outside kind n e h) ]

pub number_inside : (x : Number) → number_in_bounds x ≡ true → NumberInBounds x
number_inside (Int n) h = inside Whole n h
number_inside (Dec n) h = inside Units n h

pub number_outside : (x : Number) → number_in_bounds x ≡ false → ¬ NumberInBounds x
number_outside (Int n) h = outside Whole n h
number_outside (Dec n) h = outside Units n h

pub number_tested : (x : Number) → (number_in_bounds x ≡ true) ↔ NumberInBounds x
number_tested (Int n) = tested_inside Whole n
number_tested (Dec n) = tested_inside Units n

-- all that have a property are out of bounds if the one that has it is
pub told_by : (P : ℤ → Type 0) (m : ℤ) → P m → IsSingle P → ToldBy P m
told_by P m has one kind = (over, back)
  where
    over : IsOver kind P → in_bounds kind m ≡ false
    over h = elim (cases_Bool (in_bounds kind m)) [ inl e ↦ absurd (h m has (inside kind m e)) | inr e ↦ e ]

    back : in_bounds kind m ≡ false → IsOver kind P
    back e l p within = outside kind m e (subst (InBounds kind) (one l m p has) within)

-- ---- what is nearest

even_or_odd : (q : ℕ) → (q % 2 ≡ 0) ⊎ (q % 2 ≡ 1)
even_or_odd q = small (q % 2) (omega arith)
  where
    small : (k : ℕ) → k < 2 → (k ≡ 0) ⊎ (k ≡ 1)
    small zero h = inl refl
    small (suc zero) h = inr refl
    small (suc (suc k)) h = absurd (omega arith)

next_times : (q d : ℕ) → (q + 1) * d ≡ q * d + d
next_times q d = omega (arith, add-mul q 1 d)

near_by : (n d q r : ℕ) → q * d + r ≡ n → r < d → IsNearestNatural n d (cond (nat_lt d (2 * r)) (q + 1) (cond (2 * r == d) (q + q % 2) q))
near_by n d q r e h =
    let P = IsNearestNatural n d in
    let up = next_times q d in
    cond_both (nat_lt d (2 * r)) _ _ P (λ t. let a = ltb-true _ _ t in record { above = omega arith; below = omega arith; even_above = λ x. absurd (omega arith); even_below = λ x. absurd (omega arith) }) (λ f.
    let low = ltb-false _ _ f in
    cond_both (2 * r == d) _ _ P (λ t. half (eqb-true _ _ t)) (λ m.
    let other = eqb-false _ _ m in record { above = omega arith; below = omega arith; even_above = λ x. absurd (other (omega arith)); even_below = λ x. absurd (omega arith) }))
  where
    half : 2 * r ≡ d → IsNearestNatural n d (q + q % 2)
    half t =
        let up = next_times q d in
        elim (even_or_odd q) [
          | inl z ↦ let k : q ≡ q + q % 2 = omega arith in subst (IsNearestNatural n d) k (record { above = omega arith; below = omega arith; even_above = λ x. z; even_below = λ x. z })
          | inr z ↦ let k : q + 1 ≡ q + q % 2 = omega arith in subst (IsNearestNatural n d) k (record { above = omega arith; below = omega arith; even_above = λ x. absurd (omega arith); even_below = λ x. omega arith })
        ]

pub near_natural_is : (n d : ℕ) → 0 < d → IsNearestNatural n d (near_natural n d)
unfolding near_natural
near_natural_is n d some = near_by n d (n / d) (n % d) (div-add-mod' n d) (mod-lt n some)

pub near_is : (n d : ℤ) → d ≢ pos 0 → IsNearest n d (near n d)
unfolding near
near_is n d some =
    let s = is_negative n in
    let t = is_negative d in
    let k = near_natural (unsigned_abs n) (unsigned_abs d) in
    at_signs (λ x y. IsNearest x y (with_sign (differ s t) k)) n d (nearest_signed s t (unsigned_abs n) (unsigned_abs d) k (near_natural_is (unsigned_abs n) (unsigned_abs d) (abs_some d some)))

pub one_near : (n d : ℤ) → d ≢ pos 0 → IsSingle (IsNearest n d)
one_near n d some l m g h = one_nearest n d l m some g h

-- a millionth
million : pos 1000000 ≢ pos 0
million e = absurd cc

pub product_is : (kind : Kind) (a b : ℤ) → IsProduct kind a b (product kind a b)
product_is Whole a b = refl
product_is Units a b = near_is (a *ℤ b) (pos 1000000) million

pub one_product : (kind : Kind) (a b : ℤ) → IsSingle (IsProduct kind a b)
one_product Whole a b l m g h = g ∙ sym h
one_product Units a b l m g h = one_near (a *ℤ b) (pos 1000000) million l m g h

-- ---- quotients

pub truncated_is : (a b : ℤ) → b ≢ pos 0 → IsTruncated a b (int_div a b)
truncated_is a b some = (int_rem a b, divided a b some)

pub whole_is : (m : ℤ) → IsTruncated m (pos 1000000) (whole_of m)
whole_is m = truncated_is m (pos 1000000) million

pub one_truncated : (a b : ℤ) → IsSingle (IsTruncated a b)
one_truncated a b l m g h = (one_division a b l g.0 m h.0 g.1 h.1).0

pub one_remainder : (a b : ℤ) → IsSingle (IsRemainder a b)
one_remainder a b l m g h = (one_division a b g.0 l h.0 m g.1 h.1).1

-- ---- units near others

pub floor_of_is : (m : ℤ) → IsFloor m (floor_of m)
floor_of_is m = floor_is m

pub ceiling_of_is : (m : ℤ) → IsCeiling m (ceiling_of m)
ceiling_of_is m = by (floor_of (neg_ℤ m)) (floor_is (neg_ℤ m))
  where
    by : (r : ℤ) → IsFloor (neg_ℤ m) r → IsCeiling m (neg_ℤ r)
    by r h =
        let is = h.whole.1 in
        record { whole = (neg_ℤ h.whole.0, omega (arith, ints)); high = omega (arith, ints, h.low); near = omega (arith, ints, h.near) }

pub rounded_up_is : (m : ℤ) → IsRoundedUp m (rounded_up m)
rounded_up_is m = by (rounded_up m) (floor_is (m +ℤ pos 500000))
  where
    by : (r : ℤ) → IsFloor (m +ℤ pos 500000) r → IsRoundedUp m r
    by r h = record { whole = h.whole; from = omega (arith, ints, h.low); below = omega (arith, ints, h.near) }

pub rounded_even_is : (m : ℤ) → IsRoundedEven m (rounded_even m)
rounded_even_is m = (near m (pos 1000000), refl, near_is m (pos 1000000) million)

-- ---- totals

pub one_sum : (kind : Kind) (t : Tally) → IsSingle (IsSum kind t)
one_sum Whole t l m g h = omega (arith, ints, g, h)
one_sum Units t l m g h = g ∙ sym h

-- whole units are a whole number of times a million
whole_times : (n u q r : ℤ) → units_of n ≡ u → IsDivided u (pos 1000000) q r → units_of q ≡ u
whole_times n u q r e h = let is = h.whole in let small = h.small in omega (arith, ints)

pub sum_is : (kind : Kind) (t : Tally) → IsMet (IsSum kind t) → IsSum kind t (sum_of kind t)
sum_is Whole t h = let d = divided t.units (pos 1000000) million in whole_times h.0 t.units (whole_of t.units) (int_rem t.units (pos 1000000)) h.1 d
sum_is Units t h = refl

-- ---- what a numeral says

units_are : (n : Numeral) → IsNearest (raised_digits n *ℤ pos 1000000) (pos (10 ^ (length (frac_digits n.frac) + lowered n.exp))) (units_said n)
unfolding units_said
units_are n = near_is _ _ (ratio_some (length (frac_digits n.frac) + lowered n.exp))

-- the number by a numeral's fraction and exponent
abbrev said_with : Numeral → Option (List ℕ) → Option (Sign × List ℕ) → Number
said_with n f e = cond (is_none f && is_none e) (Int (with_sign (is_minus n.sign) (number_of 0 n.int))) (Dec (units_said n))

says_with : (n : Numeral) (f : Option (List ℕ)) (e : Option (Sign × List ℕ)) → n.frac ≡ f → n.exp ≡ e → Says n (said_with n f e)
says_with n None None p q = (p, q, refl)
says_with n None (Some e) p q = (inr (rw q refl), units_are n)
says_with n (Some f) e p q = (inl (rw p refl), units_are n)

pub says : (n : Numeral) → Says n (said n)
says n = says_with n n.frac n.exp refl refl

pub says_one : (n : Numeral) (x : Number) → Says n x → x ≡ said n
says_one n x h = one_number_said n x (said n) h (says n)

pub told_out : (n : Numeral) → IsOutOfBounds n ↔ (number_in_bounds (said n) ≡ false)
told_out n = (over, back)
  where
    over : IsOutOfBounds n → number_in_bounds (said n) ≡ false
    over h = elim (cases_Bool (number_in_bounds (said n))) [ inl e ↦ absurd (h (said n) (says n) (number_inside (said n) e)) | inr e ↦ e ]

    back : number_in_bounds (said n) ≡ false → IsOutOfBounds n
    back e x h within = number_outside (said n) e (subst NumberInBounds (says_one n x h) within)

-- what a reader of numbers may answer: a number that the numeral says, in bounds, or that it says no such number
pub said_inside : (n : Numeral) (x : Number) → Says n x → NumberInBounds x → number_in_bounds (said n) ≡ true
said_inside n x h within = (number_tested (said n)).1 (subst NumberInBounds (says_one n x h) within)

pub said_outside : (n : Numeral) → IsOutOfBounds n → number_in_bounds (said n) ≡ false
said_outside n h = (told_out n).0 h
