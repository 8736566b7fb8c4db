-- What a worker holds, and how lines are numbered in a piece.
use Rattle.std.specs.Prelude.{◌≡◌, ℕ, ◌+◌, List, map, sum_by, get_or, Option}
use Rattle.line_pieces.specs.Cuts.{Cutting, HaveLengths}
use Rattle.piece_seats.specs.declared.seat.Seat.{Seat}

-- the faults of all files
abbrev pub all_faults : {S : Type 0} → (S → ℕ) → List S → ℕ
all_faults faults files = sum_by faults files

-- the number of the first line of a piece, from 1, by how many lines stand before each piece
abbrev pub first_line : List ℕ → ℕ → ℕ
first_line before piece = get_or before piece 0 + 1

-- a worker's files are those that are cut, and they tell this
abbrev pub HoldsFiles : {S : Type 0} → (S → Option (List ℕ)) → Cutting
    → List (Option (List ℕ)) → Seat S → Type 0
HoldsFiles held cut told s =
    HaveLengths cut.lengths (map held s.files.items) × (map held s.files.items ≡ told)
