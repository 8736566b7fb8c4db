use Rattle.std.proofs.Common.{◌∙◌}
use Rattle.std.specs.Int.{w128}
use Rattle.std.proofs.lemmas.Int.{to_z-of_z}
use Rattle.fn_numbers.proofs.StepLemmas.{told_floor, told_ceiling, told_round, told_even}
use Rattle.fn_numbers.proofs.roundings.decimal_stepped.Goals as goal

pub returns-in-Floor-clause-value : goal.returns-in-Floor-clause-value
returns-in-Floor-clause-value c =
    let m = c.args.m in
    rw c.in-Floor.is (c.told.ensures ∙ told_floor m c.floor.result (rw (to_z-of_z w128 m c.ranges.m) at c.floor.ensures.value) (rw (to_z-of_z w128 m c.ranges.m) at c.floor.ensures.overflow))

pub returns-in-Ceiling-clause-value : goal.returns-in-Ceiling-clause-value
returns-in-Ceiling-clause-value c =
    let m = c.args.m in
    rw c.in-Ceiling.is (c.told-in-Ceiling.ensures ∙ told_ceiling m c.ceiling.result (rw (to_z-of_z w128 m c.ranges.m) at c.ceiling.ensures.value) (rw (to_z-of_z w128 m c.ranges.m) at c.ceiling.ensures.overflow))

pub returns-in-Round-clause-value : goal.returns-in-Round-clause-value
returns-in-Round-clause-value c =
    let m = c.args.m in
    rw c.in-Round.is (c.told-in-Round.ensures ∙ told_round m c.round.result (rw (to_z-of_z w128 m c.ranges.m) at c.round.ensures.value) (rw (to_z-of_z w128 m c.ranges.m) at c.round.ensures.overflow))

pub returns-in-RoundHalfToEven-clause-value : goal.returns-in-RoundHalfToEven-clause-value
returns-in-RoundHalfToEven-clause-value c =
    let m = c.args.m in
    rw c.in-RoundHalfToEven.is (c.told-in-RoundHalfToEven.ensures ∙ told_even m c.round_even.result (rw (to_z-of_z w128 m c.ranges.m) at c.round_even.ensures.value) (rw (to_z-of_z w128 m c.ranges.m) at c.round_even.ensures.overflow))
