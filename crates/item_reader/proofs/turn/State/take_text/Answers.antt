use Rattle.std.proofs.Common.{refl, sym, subst}
use Rattle.json_text.specs.inside.Machine as m
use Rattle.item_reader.specs.View.{mode_of}
use Rattle.item_reader.specs.Turns.{IsTurn}
use Rattle.item_reader.specs.declared.turn.Turn.TheVariants.{More}
use Rattle.item_reader.proofs.Turning.{turn_text}
use Rattle.item_reader.proofs.turn.State.take_text.Goals as goal

pub returns-in_ok-add-in-Value : goal.returns-in_ok-add-in-Value
returns-in_ok-add-in-Value c =
    let t = m.characters c.args.text in let new = c.add.new.self in
    (subst (λ x. IsTurn (mode_of x) c.args.self.now t More new) (sym c.in-Value.is) (turn_text _ c.args.self.now c.args.text new t refl c.in_ok-add-in-Value.ensures), refl)
