use Rattle.std.proofs.Common.{sym, ◌∙◌, ap}
use Rattle.item_reader.proofs.TokenSteps.{token_there, at_end}
use Rattle.item_reader.proofs.turn.State.take_next.Goals as goal

pub returns-in-None : goal.returns-in-None
returns-in-None c =
    let e = sym c.skip_spaces-left.ensures.skipped ∙ at_end c.skip_spaces-left.result.now (sym c.in-None.ensures) in
    c.take_part.ensures _ (ap (λ p. p.0) e, sym (ap (λ p. p.1) e))

pub returns-in-Some : goal.returns-in-Some
returns-in-Some c =
    let e = token_there c.skip_spaces-left.result.now c.in-Some.b c.in-Some.rest.now (sym c.in-Some.ensures) c.skip_spaces-left.ensures.stops in
    rw (sym c.skip_spaces-left.ensures.skipped ∙ e) c.take_from.ensures
