use Rattle.std.proofs.Common.{pos, int_div, ◌*ℤ◌}
use Rattle.num_fixed.specs.Nearest.{IsNearest}
use Rattle.num_fixed.specs.Quotients.{IsProduct, IsTruncated}
use Rattle.num_fixed.specs.Rounding.{IsFloor, IsCeiling, IsRoundedUp, IsRoundedEven}
use Rattle.num_fixed.specs.Totals.{IsSum}
use Rattle.num_fixed.specs.Values.{near, product, floor_of, ceiling_of, rounded_up, rounded_even, sum_of}
use Rattle.num_fixed.proofs.RoundingLemmas.{one_floor, one_ceiling, one_rounded_up, one_rounded_even}
use Rattle.num_fixed.proofs.ValueLemmas as v
use Rattle.num_fixed.proofs.laws.told.Goals as goal

pub returns : goal.returns
returns c = record {
  nearest = λ n d some. v.told_by (IsNearest n d) (near n d) (v.near_is n d some) (v.one_near n d some);
  unit = λ a b some. v.told_by (IsNearest (a *ℤ pos 1000000) b) (near (a *ℤ pos 1000000) b) (v.near_is _ b some) (v.one_near _ b some);
  product = λ k a b. v.told_by (IsProduct k a b) (product k a b) (v.product_is k a b) (v.one_product k a b);
  quotient = λ a b some. v.told_by (IsTruncated a b) (int_div a b) (v.truncated_is a b some) (v.one_truncated a b);
  floor = λ m. v.told_by (IsFloor m) (floor_of m) (v.floor_of_is m) (one_floor m);
  ceiling = λ m. v.told_by (IsCeiling m) (ceiling_of m) (v.ceiling_of_is m) (one_ceiling m);
  up = λ m. v.told_by (IsRoundedUp m) (rounded_up m) (v.rounded_up_is m) (one_rounded_up m);
  even = λ m. v.told_by (IsRoundedEven m) (rounded_even m) (v.rounded_even_is m) (one_rounded_even m);
  sum = λ k t some. v.told_by (IsSum k t) (sum_of k t) (v.sum_is k t some) (v.one_sum k t);
  said = v.told_out;
}
