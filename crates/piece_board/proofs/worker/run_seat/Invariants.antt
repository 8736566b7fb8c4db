use Rattle.std.proofs.Common.{◌≡◌, All}
use Rattle.piece_board.specs.inside.Slots.{IsGood}
use Rattle.piece_board.proofs.worker.run_seat.Given as goal

abbrev pub invariant-loop-turn : goal.invariant-loop-turn
invariant-loop-turn g l =
    g.J.Job.fits l.job l.seat
    × (g.J.Job.trouble l.seat ≡ g.J.Job.trouble l.initial.seat)
    × All (IsGood (g.J.Job.good l.job)) l.done.items
