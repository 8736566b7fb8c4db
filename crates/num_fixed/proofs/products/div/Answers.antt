use Rattle.std.proofs.Common.{◌≢◌, pos, ◌*ℤ◌, rules, FitsSigned}
use Rattle.std.specs.Int.{w128}
use Rattle.std.proofs.lemmas.Int.{to_z-of_z}
use Rattle.num_fixed.specs.Bounds.{IsOver}
use Rattle.num_fixed.specs.Nearest.{IsNearest, IsNearestUnit}
use Rattle.num_fixed.specs.declared.number.Kind.TheVariants.{Units}
use Rattle.num_fixed.proofs.Outcomes.{over_nearest, fault_where_some}
use Rattle.num_fixed.proofs.products.div.Goals as goal

pub returns-clause-fault : goal.returns-clause-fault
returns-clause-fault c =
    let a = c.args.a in
    let b = c.args.b in
    let some : b ≢ pos 0 = search rules in
    let near : IsNearest (a *ℤ pos 1000000) b c.nearest.result = search rules in
    let fits : FitsSigned w128 c.nearest.result = search rules in
    fault_where_some b (IsOver Units (IsNearestUnit a b)) some c.bounded.result
    (over_nearest Units (a *ℤ pos 1000000) b c.nearest.result _ some near (to_z-of_z w128 c.nearest.result fits) c.bounded.result c.bounded.ensures.overflow)
