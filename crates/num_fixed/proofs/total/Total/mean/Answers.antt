use Rattle.std.proofs.Common.{◌≢◌, ◌≤◌, ◌*◌, ◌-◌, ◌^◌, pos, arith, rules, sym, subst, unsigned_abs, FitsSigned}
use Rattle.std.specs.Int.{w128}
use Rattle.std.proofs.lemmas.Int.{to_z-of_z}
use Rattle.num_fixed.specs.Bounds.{InBounds}
use Rattle.num_fixed.specs.Nearest.{IsNearest}
use Rattle.num_fixed.specs.Totals.{IsMean}
use Rattle.num_fixed.specs.declared.number.Kind.TheVariants.{Units}
use Rattle.num_fixed.proofs.TotalLemmas.{mean_in_bounds}
use Rattle.num_fixed.proofs.total.Total.mean.Goals as goal

pub returns-clause-value : goal.returns-clause-value
returns-clause-value c =
    let total = c.args.self.now in
    let near : IsNearest total.units (pos total.count) c.nearest.result = search rules in
    let small : unsigned_abs total.units ≤ total.count * (10 ^ 26 - 1) = subst (λ t. unsigned_abs t.units ≤ t.count * (10 ^ 26 - 1)) c.self.view_is c.self.invariant.bounded in
    let some : total.count ≢ 0 = subst (λ t. t.count ≢ 0) c.self.view_is c.if-self-eq0.false in
    let fits : FitsSigned w128 c.nearest.result = search rules in
    subst (λ m. IsMean total m × InBounds Units m) (sym (to_z-of_z w128 c.nearest.result fits))
    ((some, near), mean_in_bounds total.units total.count c.nearest.result (omega arith) small near)
