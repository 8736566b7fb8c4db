use Rattle.std.proofs.Common.{arith, sym, ◌∙◌, refl}
use Rattle.date_atoms.proofs.DigitTexts.{no_number, digit_more, digit_bounds, room}
use Rattle.date_atoms.proofs.digits.number.Goals as goal

pub returns-then-not-is_ascii_digit : goal.returns-then-not-is_ascii_digit
returns-then-not-is_ascii_digit c =
    no_number c.args.digits.now c.loop-digit.digit-index c.loop-digit-test.true (sym c.is_ascii_digit.ensures.value ∙ c.if-not-is_ascii_digit.true)

pub overflow_mul-n : goal.overflow_mul-n
overflow_mul-n c =
    let small = room c.loop-digit.digit-index c.loop-digit.n (omega arith) c.loop-digit.invariant.small in
    omega arith

pub overflow_add-n : goal.overflow_add-n
overflow_add-n c =
    let small = room c.loop-digit.digit-index c.loop-digit.n (omega arith) c.loop-digit.invariant.small in
    omega arith

pub loop-digit-preserved : goal.loop-digit-preserved
loop-digit-preserved c =
    let within = digit_bounds _ (sym c.is_ascii_digit.ensures.value ∙ c.if-not-is_ascii_digit.false) in
    let more = rw (← c.from.ensures) at (digit_more c.args.digits.now c.loop-digit.digit-index c.loop-digit.n _ c.loop-digit-test.true refl within.0 within.1 c.loop-digit.invariant.small c.loop-digit.invariant.spelled) in
    record { small = more.0; spelled = more.1 }
