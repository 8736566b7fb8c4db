-- Decimals rounded.
use Rattle.std.proofs.Common.{◌≡◌, ℤ, Result, IfOk, IfErr}
use Rattle.num_fixed.specs.Bounds.{InBounds, IsOver}
use Rattle.num_fixed.specs.Rounding.{IsFloor, IsCeiling, IsRoundedUp, IsRoundedEven}
use Rattle.num_fixed.specs.Values.{floor_of, ceiling_of, rounded_up, rounded_even}
use Rattle.num_fixed.specs.declared.number.Kind.TheVariants.{Units}
use Rattle.num_fixed.specs.declared.number.NumFault.{NumFault}
use Rattle.num_fixed.specs.declared.number.NumFault.TheVariants.{Overflow}
use Rattle.num_fixed.proofs.RoundingLemmas.{one_floor, one_ceiling, one_rounded_up, one_rounded_even}
use Rattle.num_fixed.proofs.ValueLemmas.{floor_of_is, ceiling_of_is, rounded_up_is, rounded_even_is}
use Rattle.value_rules.specs.Results.{bounded, told}
use Rattle.value_rules.proofs.ToldLemmas.{told_one}

pub told_floor : (m : ℤ) (r : Result ℤ NumFault) → IfOk r (λ n. IsFloor m n × InBounds Units n) → IfErr r (λ e. (e ≡ Overflow) × IsOver Units (IsFloor m)) → told Units r ≡ bounded Units (floor_of m)
told_floor m r h g = told_one Units (IsFloor m) (floor_of m) (floor_of_is m) (one_floor m) r h g

pub told_ceiling : (m : ℤ) (r : Result ℤ NumFault) → IfOk r (λ n. IsCeiling m n × InBounds Units n) → IfErr r (λ e. (e ≡ Overflow) × IsOver Units (IsCeiling m)) → told Units r ≡ bounded Units (ceiling_of m)
told_ceiling m r h g = told_one Units (IsCeiling m) (ceiling_of m) (ceiling_of_is m) (one_ceiling m) r h g

pub told_round : (m : ℤ) (r : Result ℤ NumFault) → IfOk r (λ n. IsRoundedUp m n × InBounds Units n) → IfErr r (λ e. (e ≡ Overflow) × IsOver Units (IsRoundedUp m)) → told Units r ≡ bounded Units (rounded_up m)
told_round m r h g = told_one Units (IsRoundedUp m) (rounded_up m) (rounded_up_is m) (one_rounded_up m) r h g

pub told_even : (m : ℤ) (r : Result ℤ NumFault) → IfOk r (λ n. IsRoundedEven m n × InBounds Units n) → IfErr r (λ e. (e ≡ Overflow) × IsOver Units (IsRoundedEven m)) → told Units r ≡ bounded Units (rounded_even m)
told_even m r h g = told_one Units (IsRoundedEven m) (rounded_even m) (rounded_even_is m) (one_rounded_even m) r h g
