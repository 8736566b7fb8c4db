use Rattle.piece_board.specs.inside.Seen.{AllAgree}
use Rattle.piece_board.proofs.settle.all_agree.Given as goal

abbrev pub invariant-loop-at : goal.invariant-loop-at
invariant-loop-at g l = AllAgree g.J.Job.tells l.seen l.done l.at
