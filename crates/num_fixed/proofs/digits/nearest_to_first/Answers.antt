use Rattle.std.proofs.Common.{◌++◌, ◌^◌, length}
use Rattle.num_fixed.specs.Numeral.{number_of}
use Rattle.num_fixed.proofs.DigitLemmas.{one_large, power_some, rounded_fits, front_large}
use Rattle.num_fixed.proofs.digits.nearest_to_first.Goals as goal

pub returns-in-None : goal.returns-in-None
returns-in-None c = record { found = tt; none = front_large (c.args.first.now ++ c.args.second.now) (c.args.third.now ++ c.args.fourth.now) c.in-None.ensures }

pub returns-then-n-lt-UNITS_BOUND : goal.returns-then-n-lt-UNITS_BOUND
returns-then-n-lt-UNITS_BOUND c = record {
  found = (rounded_fits (c.args.first.now ++ c.args.second.now) (c.args.third.now ++ c.args.fourth.now) c.rest_of.result c.in-Some.kept c.rounded_by-n.result c.in-Some.ensures.0 c.requires c.rest_of.ensures c.rounded_by-n.ensures, c.if-n-lt-UNITS_BOUND.true);
  none = tt;
}

pub returns-else-n-lt-UNITS_BOUND : goal.returns-else-n-lt-UNITS_BOUND
returns-else-n-lt-UNITS_BOUND c = record {
  found = tt;
  none = one_large (number_of 0 ((c.args.first.now ++ c.args.second.now) ++ (c.args.third.now ++ c.args.fourth.now))) (10 ^ length (c.args.third.now ++ c.args.fourth.now)) c.rounded_by-n.result (power_some (length (c.args.third.now ++ c.args.fourth.now))) (rounded_fits (c.args.first.now ++ c.args.second.now) (c.args.third.now ++ c.args.fourth.now) c.rest_of.result c.in-Some.kept c.rounded_by-n.result c.in-Some.ensures.0 c.requires c.rest_of.ensures c.rounded_by-n.ensures) c.if-n-lt-UNITS_BOUND.false;
}
