use Rattle.std.proofs.Common.{pos, int_rem, subst, sym, rules}
use Rattle.std.specs.Int.{w128}
use Rattle.std.proofs.lemmas.Int.{quot_is}
use Rattle.num_fixed.specs.Quotients.{IsDivided}
use Rattle.num_fixed.specs.declared.number.Kind.TheVariants.{Units}
use Rattle.num_fixed.proofs.DivisionLemmas.{divided, quotient_fits, in_bounds_below}
use Rattle.num_fixed.proofs.rounding.whole_part.Goals as goal

pub returns-clause-value : goal.returns-clause-value
returns-clause-value c =
    let m = c.args.m in
    let million = pos 1000000 in
    let is = quot_is w128 m million c.ranges.m (search rules) (quotient_fits m million (in_bounds_below Units m c.requires)) in
    (int_rem m million, subst (λ q. IsDivided m million q (int_rem m million)) (sym is) (divided m million (search rules)))
