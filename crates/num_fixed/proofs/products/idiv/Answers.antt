use Rattle.std.proofs.Common.{◌≢◌, pos, int_div, int_rem, rules}
use Rattle.std.specs.Int.{w128}
use Rattle.std.proofs.lemmas.Int.{quot_is}
use Rattle.num_fixed.specs.Bounds.{IsOver}
use Rattle.num_fixed.specs.Quotients.{IsTruncated}
use Rattle.num_fixed.specs.declared.number.Kind.TheVariants.{Whole, Units}
use Rattle.num_fixed.proofs.Outcomes.{truncated_at, over_truncated, fault_where_some}
use Rattle.num_fixed.proofs.DivisionLemmas.{divided, quotient_fits, in_bounds_below}
use Rattle.num_fixed.proofs.products.idiv.Goals as goal

pub returns-clause-value : goal.returns-clause-value
returns-clause-value c =
    let a = c.args.a in
    let b = c.args.b in
    let some : b ≢ pos 0 = search rules in
    let is = quot_is w128 a b c.ranges.a c.ranges.b (quotient_fits a b (in_bounds_below Units a c.requires.left)) in
    truncated_at a b (int_div a b) (int_rem a b) _ some (divided a b some) is c.bounded.result c.bounded.ensures.value

pub returns-clause-fault : goal.returns-clause-fault
returns-clause-fault c =
    let a = c.args.a in
    let b = c.args.b in
    let some : b ≢ pos 0 = search rules in
    let is = quot_is w128 a b c.ranges.a c.ranges.b (quotient_fits a b (in_bounds_below Units a c.requires.left)) in
    fault_where_some b (IsOver Whole (IsTruncated a b)) some c.bounded.result
    (over_truncated a b (int_div a b) (int_rem a b) _ (divided a b some) is c.bounded.result c.bounded.ensures.overflow)
