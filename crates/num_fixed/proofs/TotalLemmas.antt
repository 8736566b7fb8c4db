-- Totals, and their means.
use Rattle.std.proofs.Common.{◌≡◌, inl, inr, ◌<◌, ◌≤◌, ℕ, ◌-◌, ◌*◌, ◌^◌, ℤ, pos, ◌+ℤ◌, Bool, true, false, ◌&&◌, List, [], ◌∷◌, ◌++◌, sym, ◌∙◌, ap, subst, refl, arith, add_assoc, zero-add, unsigned_abs}
use Rattle.std.proofs.lemmas.Bool.{cases_lt}
use Rattle.std.proofs.lemmas.Int.{ints}
use Rattle.std.proofs.Math.IntN.{+ℤ_assoc, +ℤ_idl}
use Rattle.std.proofs.Math.Nat.{mul-le-mul_right}
use Rattle.num_fixed.specs.Bounds.{InBounds}
use Rattle.num_fixed.specs.Nearest.{IsNearest}
use Rattle.num_fixed.specs.Rounding.{units_of}
use Rattle.num_fixed.specs.Signs.{is_negative, differ}
use Rattle.num_fixed.specs.Totals.{Tally, nothing, one, joined, tally_of}
use Rattle.num_fixed.specs.declared.number.Kind.TheVariants.{Units}
use Rattle.num_fixed.specs.declared.number.Number.{Number}
use Rattle.num_fixed.specs.declared.number.Number.TheVariants.{Int, Dec}
use Rattle.num_fixed.proofs.NearestLemmas.{natural_of_nearest}
use Rattle.num_fixed.proofs.Signs.{abs_signed, signed_abs}

-- the mean of numbers in bounds is in bounds
pub mean_in_bounds : (n : ℤ) (d : ℕ) (m : ℤ) → 0 < d → unsigned_abs n ≤ d * (10 ^ 26 - 1) → IsNearest n (pos d) m → InBounds Units m
mean_in_bounds n d m some small h =
    let v = natural_of_nearest (is_negative n) false (unsigned_abs n) d m some (subst (λ z. IsNearest z (pos d) m) (sym (signed_abs n)) h) in
    let below = v.2.below in
    let size : unsigned_abs m < 10 ^ 26 =
    elim (cases_lt v.0 (10 ^ 26)) [
      | inl less ↦ omega (arith, ap unsigned_abs v.1, abs_signed (differ (is_negative n) false) v.0)
      | inr more ↦ let far : 10 ^ 26 * d ≤ v.0 * d = mul-le-mul_right d more in absurd (omega arith)
    ] in
    (omega (arith, ints), omega (arith, ints))

same_tally : (s t : Tally) → s.units ≡ t.units → s.count ≡ t.count → s.whole ≡ t.whole → s ≡ t
same_tally s t u c w = λ i. record { units = u i; count = c i; whole = w i }

and_assoc : (a b c : Bool) → (a && b && c) ≡ (a && (b && c))
and_assoc true b c = refl
and_assoc false b c = refl

joined_assoc : (r s t : Tally) → joined (joined r s) t ≡ joined r (joined s t)
joined_assoc r s t = same_tally _ _ (+ℤ_assoc r.units s.units t.units) (add_assoc r.count s.count t.count) (and_assoc r.whole s.whole t.whole)

pub tally_of-append : (xs ys : List Number) → tally_of (xs ++ ys) ≡ joined (tally_of xs) (tally_of ys)
tally_of-append [] ys = let t = tally_of ys in same_tally t (joined nothing t) (sym (+ℤ_idl t.units)) (sym (zero-add t.count)) refl
tally_of-append (x ∷ xs) ys = ap (joined (one x)) (tally_of-append xs ys) ∙ sym (joined_assoc (one x) (tally_of xs) (tally_of ys))

pub sum_of_integers : (xs : List Number) → (tally_of xs).whole ≡ true → (n : ℤ) × (units_of n ≡ (tally_of xs).units)
sum_of_integers [] h = (pos 0, refl)
sum_of_integers (Int n ∷ xs) h = let rest = sum_of_integers xs h in let is = rest.1 in (n +ℤ rest.0, omega (arith, ints))
sum_of_integers (Dec m ∷ xs) h = absurd cc
