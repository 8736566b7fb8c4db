use Rattle.std.proofs.Common.{◌≡◌, ◌≤◌, map, length, vec_capacity}
use Rattle.piece_run.specs.Leaf.{seat_files}
use Rattle.piece_run.proofs.open_seats.fill_seats.Given as goal

abbrev pub invariant-filling : goal.invariant-filling
invariant-filling g l =
    (map seat_files l.seats.items ≡ l.yielded) × (length l.initial.files-iterator.rest.items ≤ vec_capacity l.seats)
