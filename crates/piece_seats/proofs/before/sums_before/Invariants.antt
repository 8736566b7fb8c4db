use Rattle.std.proofs.Common.{◌≡◌, ◌++◌, drop, map}
use Rattle.piece_seats.specs.inside.Sums.{sums_from}
use Rattle.piece_seats.proofs.before.sums_before.Given as goal

abbrev pub invariant-loop-piece : goal.invariant-loop-piece
invariant-loop-piece l =
    l.before.items ++ sums_from l.sum (map (λ d. d.out) (drop l.piece-index l.done)) ≡ sums_from 0 (map (λ d. d.out) l.done)
