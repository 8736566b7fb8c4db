use Rattle.std.proofs.Common.{◌≢◌, pos, int_div, subst, sym, rules}
use Rattle.std.specs.Int.{w128}
use Rattle.std.proofs.lemmas.Int.{rem_is}
use Rattle.num_fixed.specs.Bounds.{InBounds}
use Rattle.num_fixed.specs.Quotients.{IsDivided}
use Rattle.num_fixed.proofs.DivisionLemmas.{divided, remainder_within}
use Rattle.num_fixed.proofs.sums.rem.Goals as goal

pub returns-clause-value : goal.returns-clause-value
returns-clause-value c =
    let a = c.args.a in
    let b = c.args.b in
    let some : b ≢ pos 0 = search rules in
    let is = rem_is w128 a b c.ranges.a c.ranges.b in
    ((int_div a b, subst (IsDivided a b (int_div a b)) (sym is) (divided a b some)), subst (InBounds c.args.kind) (sym is) (remainder_within c.args.kind a b c.requires.left))
