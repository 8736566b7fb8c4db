use Rattle.std.proofs.Common.{◌≡◌, ℕ, length, get_or}
use Rattle.piece_outcomes.proofs.counts.Counts.new.Given as goal

abbrev pub invariant-loop-step : goal.invariant-loop-step
invariant-loop-step l = (length l.taken.items ≡ l._step) × ((k : ℕ) → get_or l.taken.items k 0 ≡ 0)
