use Rattle.piece_board.proofs.settle.see.Goals as goal

pub returns-in-Took-clause-seen : goal.returns-in-Took-clause-seen
returns-in-Took-clause-seen c = rw c.in-Took.is c.see_took.ensures.seen

pub returns-in-Told-clause-seen : goal.returns-in-Told-clause-seen
returns-in-Told-clause-seen c = rw c.in-Told.is c.see_told.ensures.seen
