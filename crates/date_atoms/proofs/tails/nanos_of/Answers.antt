use Rattle.std.proofs.Common.{arith, ap, ◌*◌, ◌≤◌, length}
use Rattle.std.proofs.lemmas.Bool.Decides.{nat_tests}
use Rattle.date_atoms.proofs.TailTexts.{counted, fraction_made, scaled}
use Rattle.date_atoms.proofs.tails.nanos_of.Goals as goal

pub returns-then-is_empty : goal.returns-then-is_empty
returns-then-is_empty c = λ f h.
    let k = counted c.args.digits.now f h in
    let low = k.low in
    let high = k.high in
    grind (arith, nat_tests)

pub returns-in_err-n : goal.returns-in_err-n
returns-in_err-n c =
    rw c.from_residual.ensures
    (λ f h. let k = counted c.args.digits.now f h in c.in_err-n.ensures k.n k.spelled)

pub overflow_mul-result : goal.overflow_mul-result
overflow_mul-result c =
    let small = rw (← c.pow.ensures) at (scaled _ c.in_ok-n.n c.if-digits-gt9.false c.in_ok-n.ensures.0) in
    omega (arith, small)

pub returns : goal.returns
returns c =
    let low : 1 ≤ length c.args.digits.now = grind (arith, nat_tests) in
    fraction_made c.args.digits.now c.in_ok-n.n _ low c.if-digits-gt9.false c.in_ok-n.ensures (ap (λ p. c.in_ok-n.n * p) c.pow.ensures)
