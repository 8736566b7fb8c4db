use Rattle.num_fixed.specs.Values.{floor_of, ceiling_of, rounded_up, rounded_even}
use Rattle.num_fixed.proofs.RoundingLemmas.{one_floor, one_ceiling, one_rounded_up, one_rounded_even}
use Rattle.num_fixed.proofs.ValueLemmas.{floor_of_is, ceiling_of_is, rounded_up_is, rounded_even_is}
use Rattle.num_fixed.proofs.laws.one_rounding.Goals as goal

pub returns : goal.returns
returns c = record {
  floor = one_floor;
  ceiling = one_ceiling;
  up = one_rounded_up;
  even = one_rounded_even;
  some_floor = λ m. (floor_of m, floor_of_is m);
  some_ceiling = λ m. (ceiling_of m, ceiling_of_is m);
  some_up = λ m. (rounded_up m, rounded_up_is m);
  some_even = λ m. (rounded_even m, rounded_even_is m);
}
