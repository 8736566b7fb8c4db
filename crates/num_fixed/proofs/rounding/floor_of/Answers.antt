use Rattle.std.proofs.Common.{◌≡◌, pos, ◌-ℤ◌, subst, arith}
use Rattle.std.specs.Int.{int_rem_euclid}
use Rattle.std.proofs.lemmas.Int.{ints, to_z-of_z}
use Rattle.num_fixed.specs.Rounding.{IsFloor}
use Rattle.num_fixed.proofs.RoundingLemmas.{floor_is}
use Rattle.num_fixed.proofs.rounding.floor_of.Goals as goal

pub returns : goal.returns
returns c =
    let rest : c.rem_euclid.result ≡ int_rem_euclid c.args.m (pos 1000000) = grind (arith, to_z-of_z) in
    let same : c.args.m -ℤ int_rem_euclid c.args.m (pos 1000000) ≡ _ = omega (arith, ints) in
    subst (IsFloor c.args.m) same (floor_is c.args.m)
