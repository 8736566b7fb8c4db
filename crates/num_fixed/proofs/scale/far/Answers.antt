use Rattle.std.proofs.Common.{◌++◌, ◌+◌, ◌^◌, ◌*◌, sym, ◌∙◌, subst, arith, length, length-append}
use Rattle.num_fixed.specs.Nearest.{IsNearestNatural}
use Rattle.num_fixed.specs.Numeral.{number_of, raised_by, lowered_by}
use Rattle.num_fixed.specs.inside.Digits.{IsLarge}
use Rattle.num_fixed.proofs.FarLemmas.{far_down, far_up, zero_scaled}
use Rattle.num_fixed.proofs.scale.far.Goals as goal

pub returns-then-all_zero_in-clause-found : goal.returns-then-all_zero_in-clause-found
returns-then-all_zero_in-clause-found c = (zero_scaled (c.args.whole.now ++ c.args.fraction.now) (6 + raised_by c.args.small c.args.exponent.now) (length c.args.fraction.now + lowered_by c.args.small c.args.exponent.now) (sym c.all_zero_in.ensures ∙ c.if-all_zero_in.true), omega arith)

pub returns-then-small-clause-found : goal.returns-then-small-clause-found
returns-then-small-clause-found c = (
  subst (λ b. IsNearestNatural (number_of 0 (c.args.whole.now ++ c.args.fraction.now) * 10 ^ (6 + raised_by b c.args.exponent.now)) (10 ^ (length c.args.fraction.now + lowered_by b c.args.exponent.now)) 0) (sym c.if-small.true)
      (far_down (c.args.whole.now ++ c.args.fraction.now) 6 (length c.args.fraction.now + number_of 0 c.args.exponent.now) c.requires.digits (omega (arith, length-append c.args.whole.now c.args.fraction.now))),
  omega arith,
)

pub returns-else-small-clause-none : goal.returns-else-small-clause-none
returns-else-small-clause-none c =
    subst (λ b. IsLarge (number_of 0 (c.args.whole.now ++ c.args.fraction.now) * 10 ^ (6 + raised_by b c.args.exponent.now)) (10 ^ (length c.args.fraction.now + lowered_by b c.args.exponent.now))) (sym c.if-small.false)
    (far_up (c.args.whole.now ++ c.args.fraction.now) (6 + number_of 0 c.args.exponent.now) (length c.args.fraction.now + 0) c.requires.digits (sym c.all_zero_in.ensures ∙ c.if-all_zero_in.false) (omega arith))
