use Rattle.std.proofs.Common.{pos, ◌*ℤ◌, rules, FitsSigned}
use Rattle.std.specs.Int.{w128}
use Rattle.std.proofs.lemmas.Int.{to_z-of_z}
use Rattle.num_fixed.specs.Nearest.{IsNearest}
use Rattle.num_fixed.proofs.Outcomes.{over_product}
use Rattle.num_fixed.proofs.products.mul.Goals as goal

pub returns-in-Units-clause-overflow : goal.returns-in-Units-clause-overflow
returns-in-Units-clause-overflow c =
    let near : IsNearest (c.args.a *ℤ c.args.b) (pos 1000000) c.nearest.result = search rules in
    let fits : FitsSigned w128 c.nearest.result = search rules in
    over_product c.args.kind c.args.a c.args.b c.nearest.result _ c.in-Units.is near (to_z-of_z w128 c.nearest.result fits) c.bounded-in-Units.result c.bounded-in-Units.ensures.overflow
