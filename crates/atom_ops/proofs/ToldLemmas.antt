-- What divisions of fixed numbers tell is what the definitions compute.
use Rattle.std.proofs.Common.{◌≡◌, ◌≢◌, zero, suc, ℤ, pos, negsuc, int_div, int_rem, true, Result, Ok, Err, IfOk, IfErr, refl, ap, arith}
use Rattle.std.proofs.lemmas.Int.{ints}
use Rattle.item_tree.specs.Truth.{is_not_zero}
use Rattle.num_fixed.specs.Bounds.{InBounds, IsOver}
use Rattle.num_fixed.specs.Laws.{IsSingle}
use Rattle.num_fixed.specs.Quotients.{IsFault, IsRemainder}
use Rattle.num_fixed.specs.declared.number.Kind.{Kind}
use Rattle.num_fixed.specs.declared.number.NumFault.{NumFault}
use Rattle.num_fixed.specs.declared.number.NumFault.TheVariants.{ZeroDivisor, Overflow}
use Rattle.num_fixed.proofs.DivisionLemmas.{divided}
use Rattle.num_fixed.proofs.ValueLemmas.{one_remainder}
use Rattle.value_rules.specs.Results.{number_of, bounded, told}
use Rattle.value_rules.proofs.ToldLemmas.{is_inside, is_outside}
use Rattle.atom_ops.specs.Arithmetic.{divided_by}

not_zero : (b : ℤ) → b ≢ pos 0 → is_not_zero b ≡ true
not_zero (pos zero) h = absurd (h refl)
not_zero (pos (suc n)) h = refl
not_zero (negsuc n) h = refl

-- the one quotient, where the divisor is not zero
pub told_quotient : (kind : Kind) (P : ℤ → Type 0) (b n : ℤ) → (b ≢ pos 0 → P n) → (b ≢ pos 0 → IsSingle P) → (r : Result ℤ NumFault) → IfOk r (λ m. (b ≢ pos 0) × P m × InBounds kind m) → IfErr r (IsFault b (IsOver kind P)) → told kind r ≡ divided_by b (bounded kind n)
told_quotient kind P b n has one (Ok m) h g = rw (not_zero b h.0) (is_inside kind m n (one h.0 m n h.1 (has h.0)) h.2)
told_quotient kind P b n has one (Err ZeroDivisor) h g = rw g refl
told_quotient kind P b n has one (Err Overflow) h g = rw (not_zero b g.0) (is_outside kind n (g.1 n (has g.0)))

some_divisor : (a b r : ℤ) → IsRemainder a b r → b ≢ pos 0
some_divisor a b r h e = let small = h.1.small in omega (arith, ints)

-- what a division leaves, which is never out of bounds
pub told_remainder : (kind : Kind) (a b : ℤ) (r : Result ℤ NumFault) → IfOk r (λ m. IsRemainder a b m × InBounds kind m) → IfErr r (λ e. (e ≡ ZeroDivisor) × (b ≡ pos 0)) → told kind r ≡ divided_by b (Ok (number_of kind (int_rem a b)))
told_remainder kind a b (Ok m) h g =
    let some = some_divisor a b m h.0 in
    rw (not_zero b some) (ap (λ k. Ok (number_of kind k)) (one_remainder a b m (int_rem a b) h.0 (int_div a b, divided a b some)))
told_remainder kind a b (Err ZeroDivisor) h g = rw g.1 refl
told_remainder kind a b (Err Overflow) h g = absurd cc
