use Rattle.std.proofs.Common.{◌≡◌, length, take}
use Rattle.piece_board.specs.inside.Seen.{AllSeen}
use Rattle.piece_board.proofs.settle.tally.Given as goal

abbrev pub invariant-loop-event : goal.invariant-loop-event
invariant-loop-event l = (length l.seen.items ≡ l.count) × AllSeen l.seen.items (take l.event-index l.events)
