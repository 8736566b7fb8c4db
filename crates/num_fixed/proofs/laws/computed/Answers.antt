use Rattle.num_fixed.proofs.DivisionLemmas.{divided}
use Rattle.num_fixed.proofs.ValueLemmas as v
use Rattle.num_fixed.proofs.laws.computed.Goals as goal

pub returns : goal.returns
returns c = record {
  nearest = v.near_is;
  unit = λ a b. v.near_is _ b;
  product = v.product_is;
  divided = divided;
  whole = v.whole_is;
  floor = v.floor_of_is;
  ceiling = v.ceiling_of_is;
  up = v.rounded_up_is;
  even = v.rounded_even_is;
  sum = v.sum_is;
  said = v.says;
  bounds = v.tested_inside;
  numbers = v.number_tested;
}
