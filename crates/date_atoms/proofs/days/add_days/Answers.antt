use Rattle.std.proofs.Common.{arith, ◌+ℤ◌, ◌≡◌, FitsSigned, w64, to_z-of_z as to_z-back, ◌∙◌}
use Rattle.std.specs.Int.{w128}
use Rattle.std.proofs.lemmas.Int.{to_z-of_z}
use Rattle.jiff.proofs.SpanFacts.{signed_arith, date_add-days, can_add-days}
use Rattle.jiff_core.specs.Calendar.{IsEpochDay}
use Rattle.jiff_core.specs.Date.{epoch_day}
use Rattle.item_tree.specs.Dates.{day_number}
use Rattle.date_atoms.proofs.CivilDays.{number_is, number_range, within, match_later}
use Rattle.date_atoms.proofs.days.add_days.Goals as goal

pub returns-then-unsigned_abs-gt-MOST_DAYS : goal.returns-then-unsigned_abs-gt-MOST_DAYS
returns-then-unsigned_abs-gt-MOST_DAYS c = λ d h.
    let a = number_range c.args.day.now c.civil_date-date.ensures.0 in
    let b = number_range d h.0 in
    let size = rw (to_z-back c.ranges.days) at c.unsigned_abs.ensures.value in
    omega (arith, size, within (day_number c.args.day.now) (day_number d) c.args.days a b h.1)

pub returns-in-Ok : goal.returns-in-Ok
returns-in-Ok c =
    let far : FitsSigned w128 c.args.days = c.ranges.days in
    let size = rw (to_z-back far) at c.unsigned_abs.ensures.value in
    let near : FitsSigned w64 c.args.days = omega (arith, signed_arith, size) in
    let only = simp to_z-of_z at c.days.ensures in
    let sum : epoch_day c.in-Ok.later ≡ epoch_day c.civil_date-date.result +ℤ c.args.days = c.in-Ok.ensures.value ∙ date_add-days c.civil_date-date.result c.args.days c.days.result only in
    match_later c.day_of.result c.civil_date-date.result c.in-Ok.later c.args.day.now c.args.days c.civil_date-date.ensures sum c.day_of.ensures

pub returns-in-Err : goal.returns-in-Err
returns-in-Err c = λ d h.
    let far : FitsSigned w128 c.args.days = c.ranges.days in
    let size = rw (to_z-back far) at c.unsigned_abs.ensures.value in
    let near : FitsSigned w64 c.args.days = omega (arith, signed_arith, size) in
    let only = simp to_z-of_z at c.days.ensures in
    let can = can_add-days c.civil_date-date.result c.args.days c.days.result only in
    let r = number_range d h.0 in
    let e = number_is c.civil_date-date.result c.args.day.now c.civil_date-date.ensures in
    let day : IsEpochDay (epoch_day c.civil_date-date.result +ℤ c.args.days) = (omega (arith, signed_arith, r, e, h.1), omega (arith, signed_arith, r, e, h.1)) in
    let no = c.in-Err.ensures.succeeds.1 (can.1 day) in
    cc
