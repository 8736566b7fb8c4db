use Rattle.std.proofs.Common.{sym}
use Rattle.item_reader.proofs.row.element.Goals as goal
use Rattle.item_reader.proofs.ElementSteps.{element_there}

pub returns-then-mark-eq44 : goal.returns-then-mark-eq44
returns-then-mark-eq44 c =
    let digit = c.if-not-is_ascii_digit.ensures.cases in
    element_there 44 _ _ _ _ _ _ _ (sym c.in-Some.ensures) digit.0 digit.1 c.in-Some-short_number.ensures (sym c.in-Some-uncons.ensures) c.if-mark-eq44.true

pub returns-then-mark-eq93 : goal.returns-then-mark-eq93
returns-then-mark-eq93 c =
    let digit = c.if-not-is_ascii_digit.ensures.cases in
    element_there 93 _ _ _ _ _ _ _ (sym c.in-Some.ensures) digit.0 digit.1 c.in-Some-short_number.ensures (sym c.in-Some-uncons.ensures) c.if-mark-eq93.true
