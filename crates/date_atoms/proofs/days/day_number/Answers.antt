use Rattle.std.proofs.Common.{arith, FitsSigned, w32, to_z-of_z, sym, ap, ◌∙◌}
use Rattle.jiff.proofs.SpanFacts.{signed_arith}
use Rattle.jiff.specs.Words.{epoch_day}
use Rattle.date_atoms.proofs.CivilDays.{number_is, number_range}
use Rattle.date_atoms.proofs.days.day_number.Goals as goal

pub returns-clause-value : goal.returns-clause-value
returns-clause-value c =
    let fits : FitsSigned w32 c.to_unix_epoch_day.result = omega (arith, signed_arith, c.to_unix_epoch_day.type_inv) in
    to_z-of_z fits ∙ c.to_unix_epoch_day.ensures.value ∙ ap epoch_day c.to_plain.ensures
    ∙ sym (number_is c.civil_date.result c.args.day.now c.civil_date.ensures)

pub returns-clause-within : goal.returns-clause-within
returns-clause-within c = rw (returns-clause-value c) (number_range c.args.day.now c.civil_date.ensures.0)
