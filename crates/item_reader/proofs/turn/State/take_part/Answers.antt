use Rattle.item_reader.proofs.turn.State.take_part.Goals as goal

pub returns : goal.returns
returns c = λ p h. (c.in_ok-turn.ensures p.0 h.0, h.1)
