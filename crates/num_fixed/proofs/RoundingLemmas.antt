-- What the rounded numbers are.
use Rattle.std.proofs.Common.{◌≡◌, ◌/◌, ℤ, pos, negsuc, ◌-ℤ◌, sym, ◌∙◌, ap, arith}
use Rattle.std.specs.Int.{int_rem_euclid}
use Rattle.std.proofs.lemmas.Int.{ints}
use Rattle.num_fixed.specs.Rounding.{units_of, IsFloor, IsCeiling, IsRoundedUp, IsRoundedEven}
use Rattle.num_fixed.proofs.NearestLemmas.{one_nearest}

-- what is left of the remainder that is never below 0
pub floor_is : (m : ℤ) → IsFloor m (m -ℤ int_rem_euclid m (pos 1000000))
floor_is (pos a) = record { whole = (pos (a / 1000000), omega (arith, ints)); low = omega (arith, ints); near = omega (arith, ints) }
floor_is (negsuc a) = record { whole = (negsuc (a / 1000000), omega (arith, ints)); low = omega (arith, ints); near = omega (arith, ints) }

-- one number is each
pub one_floor : (m r s : ℤ) → IsFloor m r → IsFloor m s → r ≡ s
one_floor m r s g h = let x = g.whole.1 in let y = h.whole.1 in omega (arith, ints, g.low, g.near, h.low, h.near)

pub one_ceiling : (m r s : ℤ) → IsCeiling m r → IsCeiling m s → r ≡ s
one_ceiling m r s g h = let x = g.whole.1 in let y = h.whole.1 in omega (arith, ints, g.high, g.near, h.high, h.near)

pub one_rounded_up : (m r s : ℤ) → IsRoundedUp m r → IsRoundedUp m s → r ≡ s
one_rounded_up m r s g h = let x = g.whole.1 in let y = h.whole.1 in omega (arith, ints, g.from, g.below, h.from, h.below)

pub one_rounded_even : (m r s : ℤ) → IsRoundedEven m r → IsRoundedEven m s → r ≡ s
one_rounded_even m r s g h = g.1 ∙ ap units_of (one_nearest m (pos 1000000) g.0 h.0 (λ e. absurd cc) g.2 h.2) ∙ sym h.1
