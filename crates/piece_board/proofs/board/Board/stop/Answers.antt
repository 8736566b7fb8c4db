use Rattle.piece_board.proofs.Keeping.{stop_keeps}
use Rattle.piece_board.proofs.board.Board.stop.Goals as goal

pub invariant_of-self : goal.invariant_of-self
invariant_of-self c =
    rw c.note.ensures.items (stop_keeps _ _ _ _ _ c.self.invariant c.note.ensures.capacity c.if-not-self.true)
