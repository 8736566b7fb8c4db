-- The sum of a wide total.
use Rattle.std.proofs.Common.{◌≡◌, ℕ, ◌^◌, ◌*◌, ◌<◌, Bool, true, false, ℤ, pos, ◌+ℤ◌, ◌*ℤ◌, refl, arith, FitsSigned, unsigned_abs}
use Rattle.std.specs.Int.{w128}
use Rattle.std.specs.Int.RustNames.{int_div}
use Rattle.std.proofs.lemmas.Int.{ints}
use Rattle.num_fixed.specs.declared.number.Kind.TheVariants.{Whole, Units}
use Rattle.num_fixed.proofs.DivisionLemmas.{divided}
use Rattle.value_rules.specs.Numbers.{total}
use Rattle.value_rules.specs.Results.{bounded}

abbrev pub wide : ℤ → ℤ → ℤ
wide high low = high *ℤ pos (10 ^ 27) +ℤ low

pub quotient_fits : (u : ℤ) → unsigned_abs u < 2 * 10 ^ 27 → FitsSigned w128 (int_div u (pos 1000000))
quotient_fits u h = let d = divided u (pos 1000000) (λ e. absurd cc) in let is = d.whole in let small = d.small in omega (arith, ints, is, small, h)

pub total_whole : (u : ℤ) (n : ℕ) (b : Bool) → b ≡ true → bounded Whole (int_div u (pos 1000000)) ≡ total (record { units = u; count = n; whole = b })
total_whole u n b e = rw e refl

pub total_units : (u : ℤ) (n : ℕ) (b : Bool) → b ≡ false → bounded Units u ≡ total (record { units = u; count = n; whole = b })
total_units u n b e = rw e refl
