use Rattle.std.proofs.Common.{◌++◌}
use Rattle.num_fixed.specs.Numeral.{number_of}
use Rattle.num_fixed.proofs.ScaleLemmas.{scaled_down, large_down, scaled_up, large_up, large_first}
use Rattle.num_fixed.proofs.scale.scaled.Goals as goal

pub returns-then-up-down-clause-found : goal.returns-then-up-down-clause-found
returns-then-up-down-clause-found c = scaled_down c.nearest_without.result (number_of 0 (c.args.whole.now ++ c.args.fraction.now)) c.args.up c.args.down c.if-up-down.true c.nearest_without.ensures.found

pub returns-then-up-down-clause-none : goal.returns-then-up-down-clause-none
returns-then-up-down-clause-none c = large_down c.nearest_without.result (number_of 0 (c.args.whole.now ++ c.args.fraction.now)) c.args.up c.args.down c.if-up-down.true c.nearest_without.ensures.none

pub returns-in-Some-clause-found : goal.returns-in-Some-clause-found
returns-in-Some-clause-found c = scaled_up c.shifted.result c.in-Some.n (number_of 0 (c.args.whole.now ++ c.args.fraction.now)) c.args.up c.args.down c.if-up-down.false c.in-Some.ensures.0 c.shifted.ensures

pub returns-in-Some-clause-none : goal.returns-in-Some-clause-none
returns-in-Some-clause-none c = large_up c.shifted.result c.in-Some.n (number_of 0 (c.args.whole.now ++ c.args.fraction.now)) c.args.up c.args.down c.if-up-down.false c.in-Some.ensures.0 c.shifted.ensures

pub returns-in-None-clause-none : goal.returns-in-None-clause-none
returns-in-None-clause-none c = large_first (number_of 0 (c.args.whole.now ++ c.args.fraction.now)) c.args.up c.args.down c.if-up-down.false c.in-None.ensures
