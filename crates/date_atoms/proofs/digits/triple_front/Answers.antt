use Rattle.date_atoms.proofs.DigitTexts.{no_second, no_third}
use Rattle.date_atoms.proofs.digits.triple_front.Goals as goal

pub returns-in_err-second : goal.returns-in_err-second
returns-in_err-second c =
    rw c.from_residual-in_err-second.ensures
    (no_second c.args.width c.args.mark c.args.bytes.now c.in_ok-first.first c.in_ok-first.behind.now c.in_ok-first.ensures c.in_err-second.ensures)

pub returns-in_err-third : goal.returns-in_err-third
returns-in_err-third c =
    let second = c.in_ok-second.ensures in
    rw c.from_residual-in_err-third.ensures
    (no_third c.args.width c.args.mark c.args.bytes.now c.in_ok-first.first c.in_ok-first.behind.now second.0 c.in_ok-second.second c.in_ok-second.behind.now c.in_ok-first.ensures second.1 second.2 c.in_err-third.ensures)
