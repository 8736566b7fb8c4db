-- The lines of the pieces of an input. The definitions are on whole files.
use Rattle.std.specs.Prelude.{ℕ, ◌+◌, ◌*◌, ◌%◌, ◌^◌, Bool, ◌&&◌, nat_le, nat_lt, List, [], length, map, filter, flat_map, get_or, Option, None, option_map, sum, sum_by}
use Rattle.std.specs.List.{range_with_len}
use Rattle.item_reader.specs.Lines.{Line, lines}
use Rattle.line_pieces.specs.declared.lines.Line.{Line as ReadLine}
use Rattle.line_pieces.specs.declared.lines.LentLine.{LentLine}
use Rattle.line_pieces.specs.Cuts.{Cutting, place_of, pieces_of}

-- a line that was read, as contracts see it
abbrev pub line_of : ReadLine → Line
line_of l = record { at = l.at; bytes = l.bytes.items }

-- a line that is lent
abbrev pub lent_line : LentLine → Line
lent_line l = record { at = l.at; bytes = l.bytes.now }

-- the line begins at this offset or behind it, and before that one
abbrev pub begins_within : ℕ → ℕ → Line → Bool
begins_within from end l = nat_le from l.at && nat_lt l.at end

-- the lines of a file that begin in its piece of this number
abbrev pub lines_in : ℕ → ℕ → List ℕ → List Line
lines_in size number bytes =
    filter (begins_within (number * size) ((number + 1) * size)) (lines bytes)

-- the lines of a piece of these files
abbrev pub piece_of : ℕ → List (List ℕ) → ℕ → List Line
piece_of size files piece =
    lines_in size (place_of size (map length files) piece).1
    (get_or files (place_of size (map length files) piece).0 [])

-- the lines of a piece of a cut, where the piece's file tells its bytes
abbrev pub told_piece : Cutting → List (Option (List ℕ)) → ℕ → Option (List Line)
told_piece cut files piece =
    option_map (lines_in cut.size (place_of cut.size cut.lengths piece).1)
    (get_or files (place_of cut.size cut.lengths piece).0 None)

-- the lines of the files in order
abbrev pub lines_of : List (List ℕ) → List Line
lines_of files = flat_map lines files

-- the lines of all pieces in order
abbrev pub all_pieces : ℕ → List (List ℕ) → List Line
all_pieces size files =
    flat_map (piece_of size files) (range_with_len 0 (pieces_of size (map length files)))

-- the sum of all bytes of these lines, of which 64 bits are kept
abbrev pub bytes_sum : List Line → ℕ
bytes_sum ls = sum_by (λ l. sum l.bytes) ls % 2 ^ 64
