use Rattle.std.proofs.Common.{◌≡◌, ◌+◌, ◌*◌, ◌^◌, ◌++◌, length, pos, sym, ◌∙◌, subst, refl, rules, FitsSigned}
use Rattle.std.specs.Int.{w128}
use Rattle.std.proofs.lemmas.Int.{to_z-of_z}
use Rattle.num_fixed.specs.Bounds.{InBounds}
use Rattle.num_fixed.specs.inside.Digits.{IsLarge}
use Rattle.num_fixed.specs.Nearest.{IsNearestNatural, IsNearestUnit}
use Rattle.num_fixed.specs.Numeral.{number_of, raised_by, lowered_by, raised, lowered}
use Rattle.num_fixed.specs.Signs.{with_sign}
use Rattle.num_fixed.specs.declared.number.Kind.TheVariants.{Units}
use Rattle.num_fixed.proofs.Reading.{exp_taken, units_read, units_over, signed_in_bounds}
use Rattle.num_fixed.proofs.read.read_dec.Goals as goal

pub returns-in-Some-clause-value : goal.returns-in-Some-clause-value
returns-in-Some-clause-value c = λ x h.
    let n = number_of 0 (c.args.whole.now ++ c.args.fraction.now) in
    let places = length c.args.fraction.now in
    let taken = exp_taken x c.args.exponent.now h in
    let up : raised_by c.split_exponent-small.result.0 c.split_exponent-small.result.1.now ≡ raised x = cc in
    let down : lowered_by c.split_exponent-small.result.0 c.split_exponent-small.result.1.now ≡ lowered x = cc in
    let near = subst (λ u. IsNearestNatural (n * 10 ^ (6 + u)) (10 ^ (places + lowered x)) c.in-Some.size) up (subst (λ d. IsNearestNatural (n * 10 ^ (6 + raised_by c.split_exponent-small.result.0 c.split_exponent-small.result.1.now)) (10 ^ (places + d)) c.in-Some.size) down c.in-Some.ensures.found.0) in
    let fits : FitsSigned w128 c.with_sign.result = search rules in
    let is : with_sign c.args.negative c.in-Some.size ≡ _ = sym c.with_sign.ensures ∙ sym (to_z-of_z w128 c.with_sign.result fits) in
    subst (λ m. IsNearestUnit (with_sign c.args.negative (n * 10 ^ raised x)) (pos (10 ^ (places + lowered x))) m × InBounds Units m) is
    (units_read c.args.negative n (raised x) (places + lowered x) c.in-Some.size near, signed_in_bounds Units c.args.negative c.in-Some.size c.in-Some.ensures.found.1)

pub returns-in-None-clause-overflow : goal.returns-in-None-clause-overflow
returns-in-None-clause-overflow c = λ x h.
    let n = number_of 0 (c.args.whole.now ++ c.args.fraction.now) in
    let places = length c.args.fraction.now in
    let taken = exp_taken x c.args.exponent.now h in
    let up : raised_by c.split_exponent-small.result.0 c.split_exponent-small.result.1.now ≡ raised x = cc in
    let down : lowered_by c.split_exponent-small.result.0 c.split_exponent-small.result.1.now ≡ lowered x = cc in
    let large = subst (λ u. IsLarge (n * 10 ^ (6 + u)) (10 ^ (places + lowered x))) up (subst (λ d. IsLarge (n * 10 ^ (6 + raised_by c.split_exponent-small.result.0 c.split_exponent-small.result.1.now)) (10 ^ (places + d))) down c.in-None.ensures.none) in
    (refl, units_over c.args.negative n (raised x) (places + lowered x) large)
