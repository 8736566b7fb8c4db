use Rattle.piece_board.proofs.Placing.{moved_on}
use Rattle.piece_board.proofs.settle.put_in_place.Goals as goal

pub loop-turn-preserved : goal.loop-turn-preserved
loop-turn-preserved g c =
    moved_on _ _ _ _ c.loop-turn.invariant c.put_away.ensures.permutation c.put_away.ensures.length
