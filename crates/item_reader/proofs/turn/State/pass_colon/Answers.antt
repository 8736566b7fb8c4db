use Rattle.std.proofs.Common.{sym, ◌∙◌, ap, ◌∷◌}
use Rattle.item_reader.proofs.Uncons.{cons_of}
use Rattle.item_reader.proofs.Turning.{colon_passed}
use Rattle.item_reader.proofs.turn.State.pass_colon.Goals as goal

pub returns : goal.returns
returns c =
    let rest = c.in-Some.rest.now in
    colon_passed c.args.self.now c.args.line.now rest c.requires (cons_of c.args.line.now c.in-Some.mark rest (sym c.in-Some.ensures) ∙ ap (λ b. b ∷ rest) c.if-mark-ne58.false)
