use Rattle.run_words.proofs.Parsing.{number_ok, number_err}
use Rattle.run_words.proofs.given.is_number_in.Goals as goal

pub returns-then-low-number : goal.returns-then-low-number
returns-then-low-number c =
    let h = c.in-Ok.ensures.value.0 in number_ok c.args.low c.args.high c.in-Ok.number c.args.text.now h.0.0 h.1 c.if-low-number.true

pub returns-in-Err : goal.returns-in-Err
returns-in-Err c = number_err c.args.low c.args.high c.args.text.now c.in-Err.ensures.value.0 c.requires
