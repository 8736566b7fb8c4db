-- Values that the functions compute.
use Rattle.std.proofs.Common.{◌≡◌, ℕ, ◌^◌, pos, negsuc, neg_ℤ, int_div, int_rem, true, false, List, [], ◌∷◌, Option, Some, None, refl}
use Rattle.std.specs.Prelude.{map, codes}
use Rattle.num_fixed.specs.Numeral.{Sign, none, plus, minus, Numeral}
use Rattle.num_fixed.specs.Totals.{nothing, tally_of}
use Rattle.num_fixed.specs.Values.{in_bounds, number_in_bounds, near, near_natural, near_unit, product, whole_of, floor_of, ceiling_of, rounded_up, rounded_even, sum_of, mean_of, units_said, said}
use Rattle.num_fixed.specs.declared.number.Kind.TheVariants.{Whole, Units}
use Rattle.num_fixed.specs.declared.number.Number.TheVariants.{Int, Dec}

-- a row: what is computed, and what it is
abbrev AreAll : {A : Type 0} → List (A × A) → Type 0
AreAll rows = map (λ p. p.0) rows ≡ map (λ p. p.1) rows

-- n / d: ties go to the even number, on both sides of 0
nearest_rows : AreAll (
    (near (pos 5) (pos 2), pos 2) ∷ (near (pos 7) (pos 2), pos 4) ∷ (near (negsuc 4) (pos 2), negsuc 1) ∷ (near (negsuc 6) (pos 2), negsuc 3)
    ∷ (near (pos 7) (negsuc 1), negsuc 3) ∷ (near (negsuc 6) (negsuc 1), pos 4) ∷ (near (pos 1) (pos 2), pos 0) ∷ (near (negsuc 0) (pos 2), pos 0)
    ∷ (near (pos 7) (pos 3), pos 2) ∷ (near (pos 8) (pos 3), pos 3) ∷ (near (negsuc 7) (pos 3), negsuc 2) ∷ (near (pos 0) (pos 3), pos 0)
    ∷ [])
unfolding near near_natural
nearest_rows = refl

-- a / b in units: 2 div 3 is 0.666667
unit_rows : AreAll (
    (near_unit (pos 2) (pos 3), pos 666667) ∷ (near_unit (pos 1) (pos 3), pos 333333) ∷ (near_unit (negsuc 1) (pos 3), negsuc 666666)
    ∷ (near_unit (pos 1) (pos 2000000), pos 0) ∷ (near_unit (pos 3) (pos 2000000), pos 2) ∷ (near_unit (pos 7) (pos 2), pos 3500000)
    ∷ (product Units (pos 1) (pos 500000), pos 0) ∷ (product Units (pos 3) (pos 500000), pos 2) ∷ (product Units (negsuc 2) (pos 500000), negsuc 1)
    ∷ (product Whole (negsuc 2) (pos 7), negsuc 20)
    ∷ [])
unfolding near near_natural
unit_rows = refl

-- quotients are truncated, and a remainder has the sign of what is divided
quotient_rows : AreAll (
    (int_div (pos 7) (pos 2), pos 3) ∷ (int_div (negsuc 6) (pos 2), negsuc 2) ∷ (int_div (pos 7) (negsuc 1), negsuc 2) ∷ (int_div (negsuc 6) (negsuc 1), pos 3)
    ∷ (int_rem (pos 7) (pos 2), pos 1) ∷ (int_rem (negsuc 6) (pos 2), negsuc 0) ∷ (int_rem (pos 7) (negsuc 1), pos 1) ∷ (int_rem (negsuc 6) (negsuc 1), negsuc 0)
    ∷ (whole_of (pos 1999999), pos 1) ∷ (whole_of (negsuc 1999998), negsuc 0) ∷ (whole_of (negsuc 999998), pos 0)
    ∷ [])
quotient_rows = refl

-- 0.5, 1.5, 2.5 and others, and the same below 0
rounding_rows : AreAll (
    (floor_of (pos 500000), pos 0) ∷ (floor_of (negsuc 499999), negsuc 999999) ∷ (floor_of (pos 2000000), pos 2000000) ∷ (floor_of (negsuc 1999999), negsuc 1999999)
    ∷ (ceiling_of (pos 500000), pos 1000000) ∷ (ceiling_of (negsuc 499999), pos 0) ∷ (ceiling_of (pos 2000000), pos 2000000) ∷ (ceiling_of (pos 0), pos 0)
    ∷ (rounded_up (pos 500000), pos 1000000) ∷ (rounded_up (negsuc 499999), pos 0) ∷ (rounded_up (negsuc 1499999), negsuc 999999) ∷ (rounded_up (pos 499999), pos 0)
    ∷ (rounded_even (pos 500000), pos 0) ∷ (rounded_even (pos 1500000), pos 2000000) ∷ (rounded_even (pos 2500000), pos 2000000) ∷ (rounded_even (negsuc 1499999), negsuc 1999999)
    ∷ [])
unfolding near near_natural
rounding_rows = refl

-- the total of 1 and 2, and that of 1 and 0.5
total_rows : AreAll (
    (sum_of Whole (tally_of (Int (pos 1) ∷ Int (pos 2) ∷ [])), pos 3) ∷ (sum_of Units (tally_of (Int (pos 1) ∷ Dec (pos 500000) ∷ [])), pos 1500000)
    ∷ (mean_of (tally_of (Int (pos 1) ∷ Int (pos 1) ∷ Dec (pos 0) ∷ [])), pos 666667) ∷ (sum_of Whole nothing, pos 0)
    ∷ [])
unfolding near near_natural
total_rows = refl

numeral : Sign → List ℕ → Option (List ℕ) → Option (Sign × List ℕ) → Numeral
numeral s i f e = record { sign = s; int = i; frac = f; exp = e }

-- what numerals say: 12, -0, 0.5, -.0000005, 0.0000015, 5e-7, 25E-7, 1.5e+2, 1e-400 and 1e20
numeral_rows : AreAll (
    (said (numeral none (codes "12") None None), Int (pos 12)) ∷ (said (numeral minus (codes "0") None None), Int (pos 0))
    ∷ (said (numeral none (codes "0") (Some (codes "5")) None), Dec (pos 500000)) ∷ (said (numeral minus [] (Some (codes "0000005")) None), Dec (pos 0))
    ∷ (said (numeral none (codes "0") (Some (codes "0000015")) None), Dec (pos 2)) ∷ (said (numeral none (codes "5") None (Some (minus, codes "7"))), Dec (pos 0))
    ∷ (said (numeral none (codes "25") None (Some (minus, codes "7"))), Dec (pos 2)) ∷ (said (numeral plus (codes "1") (Some (codes "5")) (Some (plus, codes "2"))), Dec (pos 150000000))
    ∷ (said (numeral none (codes "1") None (Some (minus, codes "400"))), Dec (pos 0)) ∷ (said (numeral minus (codes "1") None (Some (none, codes "20"))), Dec (neg_ℤ (pos (10 ^ 26))))
    ∷ [])
unfolding near near_natural units_said numeral
numeral_rows = refl

bound_rows : AreAll (
    (in_bounds Whole (pos 99999999999999999999), true) ∷ (in_bounds Whole (pos 100000000000000000000), false) ∷ (in_bounds Whole (neg_ℤ (pos 100000000000000000000)), false)
    ∷ (in_bounds Whole (negsuc 99999999999999999998), true) ∷ (number_in_bounds (Dec (pos 99999999999999999999999999)), true) ∷ (number_in_bounds (Dec (pos (10 ^ 26))), false)
    ∷ [])
bound_rows = refl
