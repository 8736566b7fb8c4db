use Rattle.std.proofs.Common.{◌≡◌, ℕ, ◌+◌, ◌<◌, length, get_or}
use Rattle.piece_outcomes.specs.Counting.{taken_by}
use Rattle.piece_outcomes.proofs.counts.Counts.plus.Given as goal

abbrev pub invariant-loop-step : goal.invariant-loop-step
invariant-loop-step l =
    (length l.taken.items ≡ l.step)
    × ((k : ℕ) → k < l.step
    → get_or l.taken.items k 0 ≡ taken_by l.self (l.first + k) + taken_by l.other (l.first + k))
