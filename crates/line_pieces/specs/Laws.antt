-- Laws of pieces.
use Rattle.std.specs.Prelude.{◌≡◌, ◌<◌, ◌%◌, ◌^◌, ℕ, List, length, map, sum_by, Some}
use Rattle.std.specs.List.{range_with_len}
use Rattle.line_pieces.specs.Cuts.{pieces_of}
use Rattle.line_pieces.specs.Pieces.{all_pieces, bytes_sum, lines_of, piece_of, told_piece}

-- the pieces in order are the lines of the files in order, whatever the size
abbrev pub PiecesAreWhole : Type 0
PiecesAreWhole = (size : ℕ) → (files : List (List ℕ)) → 0 < size
    → all_pieces size files ≡ lines_of files

-- where all files tell their bytes, what is told of a piece is the piece
abbrev pub PiecesAreTold : Type 0
PiecesAreTold = (size : ℕ) → (files : List (List ℕ)) → (piece : ℕ)
    → piece < pieces_of size (map length files)
    → told_piece (record { lengths = map length files; size = size }) (map Some files) piece
    ≡ Some (piece_of size files piece)

-- the sums of all pieces make the sum of all lines, whatever the size
abbrev pub SumsAreWhole : Type 0
SumsAreWhole = (size : ℕ) → (files : List (List ℕ)) → 0 < size
    → sum_by (λ piece. bytes_sum (piece_of size files piece))
    (range_with_len 0 (pieces_of size (map length files))) % 2 ^ 64
    ≡ bytes_sum (lines_of files)
