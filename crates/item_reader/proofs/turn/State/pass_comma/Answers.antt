use Rattle.std.proofs.Common.{sym, ◌∙◌, ap, ◌∷◌, subst}
use Rattle.item_reader.specs.View.{kinds_of}
use Rattle.item_reader.specs.Turns.{GoesOn}
use Rattle.item_reader.proofs.Uncons.{cons_of}
use Rattle.item_reader.proofs.Turning.{comma_passed}
use Rattle.item_reader.proofs.turn.State.pass_comma.Goals as goal

pub returns-in-Some-behind_comma : goal.returns-in-Some-behind_comma
returns-in-Some-behind_comma c =
    let old = c.args.self.now in let rest = c.in-Some.rest.now in
    comma_passed old c.args.line.now rest c.in-Some-behind_comma.mode c.requires (cons_of c.args.line.now c.in-Some.mark rest (sym c.in-Some.ensures) ∙ ap (λ b. b ∷ rest) c.if-mark-ne44.false)
    (subst (λ o. GoesOn o (kinds_of old.kinds.items)) c.in-Some-behind_comma.is c.behind_comma.ensures)
