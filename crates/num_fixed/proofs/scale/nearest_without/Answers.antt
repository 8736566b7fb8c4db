use Rattle.std.proofs.Common.{◌++◌, arith, length-append}
use Rattle.num_fixed.proofs.DigitLemmas.{none_kept}
use Rattle.num_fixed.proofs.scale.nearest_without.Goals as goal

pub returns-then-last-whole-clause-found : goal.returns-then-last-whole-clause-found
returns-then-last-whole-clause-found c = (none_kept (c.args.whole.now ++ c.args.fraction.now) c.args.last c.requires (omega (arith, length-append c.args.whole.now c.args.fraction.now)), omega arith)
