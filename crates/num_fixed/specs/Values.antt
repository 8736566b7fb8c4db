-- Arithmetic as functions that compute. The laws `computed` and `told` say that each gives what its
-- relation holds of.
-- The quotient and the remainder of `IsDivided` are std's `int_div` and `int_rem`.
use Rattle.std.specs.Prelude.{ℕ, ◌+◌, ◌*◌, ◌/◌, ◌%◌, ◌^◌, ◌==◌, nat_lt, Bool, ◌&&◌, if◌then◌else◌, ℤ, pos, neg_ℤ, ◌+ℤ◌, ◌-ℤ◌, ◌*ℤ◌, unsigned_abs, ◌++◌, length, is_none}
use Rattle.std.specs.Int.{int_rem_euclid}
use Rattle.std.specs.Int.RustNames.{int_div}
use Rattle.num_fixed.specs.Bounds.{bound}
use Rattle.num_fixed.specs.Numeral.{Numeral, frac_digits, is_minus, number_of, raised, lowered}
use Rattle.num_fixed.specs.Rounding.{units_of}
use Rattle.num_fixed.specs.Signs.{with_sign, is_negative, differ}
use Rattle.num_fixed.specs.Totals.{Tally}
use Rattle.num_fixed.specs.declared.number.Kind.{Kind}
use Rattle.num_fixed.specs.declared.number.Kind.TheVariants.{Whole, Units}
use Rattle.num_fixed.specs.declared.number.Number.{Number}
use Rattle.num_fixed.specs.declared.number.Number.TheVariants.{Int, Dec}

-- ---- bounds

abbrev pub in_bounds : Kind → ℤ → Bool
in_bounds kind n = nat_lt (unsigned_abs n) (bound kind)

abbrev pub number_in_bounds : Number → Bool
number_in_bounds (Int n) = in_bounds Whole n
number_in_bounds (Dec m) = in_bounds Units m

-- ---- what is nearest

-- the natural number nearest to n / d, the even one where two are
unfoldable pub near_natural : ℕ → ℕ → ℕ
near_natural n d =
    if nat_lt d (2 * (n % d)) then n / d + 1 else
    if 2 * (n % d) == d then n / d + n / d % 2 else n / d

-- the whole number nearest to n / d, the even one where two are
unfoldable pub near : ℤ → ℤ → ℤ
near n d =
    let size = near_natural (unsigned_abs n) (unsigned_abs d) in
    with_sign (differ (is_negative n) (is_negative d)) size

-- the number of units of 10^-6 nearest to a / b
abbrev pub near_unit : ℤ → ℤ → ℤ
near_unit a b = near (a *ℤ pos 1000000) b

-- the product of whole numbers, or the unit nearest to the product of decimals
abbrev pub product : Kind → ℤ → ℤ → ℤ
product Whole a b = a *ℤ b
product Units a b = near (a *ℤ b) (pos 1000000)

-- ---- units near others

-- the whole number that is left of units without their part behind the point
abbrev pub whole_of : ℤ → ℤ
whole_of m = int_div m (pos 1000000)

-- the greatest units of a whole number that are not above m
abbrev pub floor_of : ℤ → ℤ
floor_of m = m -ℤ int_rem_euclid m (pos 1000000)

-- the least that are not below m
abbrev pub ceiling_of : ℤ → ℤ
ceiling_of m = neg_ℤ (floor_of (neg_ℤ m))

-- the nearest to m, the greater ones where two are
abbrev pub rounded_up : ℤ → ℤ
rounded_up m = floor_of (m +ℤ pos 500000)

-- the nearest to m, the even ones where two are
abbrev pub rounded_even : ℤ → ℤ
rounded_even m = units_of (near m (pos 1000000))

-- ---- totals

-- the sum, counted in ones or in units
abbrev pub sum_of : Kind → Tally → ℤ
sum_of Whole t = whole_of t.units
sum_of Units t = t.units

-- the units nearest to the sum divided by the number
abbrev pub mean_of : Tally → ℤ
mean_of t = near t.units (pos t.count)

-- ---- what a numeral says

-- the digits of a numeral, raised by its exponent, as a whole number
abbrev pub raised_digits : Numeral → ℤ
raised_digits n =
    with_sign (is_minus n.sign) (number_of 0 (n.int ++ frac_digits n.frac) * 10 ^ raised n.exp)

-- in units: those digits over the power of ten by which the places behind the point and the
-- exponent lower them
unfoldable pub units_said : Numeral → ℤ
units_said n =
    near_unit (raised_digits n) (pos (10 ^ (length (frac_digits n.frac) + lowered n.exp)))

-- an integer where there is neither a point nor an exponent
abbrev pub said : Numeral → Number
said n =
    if is_none n.frac && is_none n.exp then Int (with_sign (is_minus n.sign) (number_of 0 n.int))
    else Dec (units_said n)
