-- How many lines stand before each piece of an input.
use Rattle.std.specs.Prelude.{◌≡◌, ℕ, ◌<◌, List, Option, Some, flat_map, get_or, length}
use Rattle.std.specs.List.{range_with_len}
use Rattle.item_reader.specs.Lines.{Line}
use Rattle.line_pieces.specs.Cuts.{Cutting, pieces_of}
use Rattle.line_pieces.specs.Pieces.{told_piece}

-- how many lines stand before a piece, by the lines of all pieces
abbrev pub lines_before : (ℕ → List Line) → ℕ → ℕ
lines_before lists p = length (flat_map lists (range_with_len 0 p))

-- There is one number for each piece of files that tell this. That of a piece is how many lines
-- stand before it, where the files of all pieces before it tell their bytes.
pub record AreLinesBefore (cut : Cutting) (told : List (Option (List ℕ))) (before : List ℕ)
    : Type 0 where
  pub count : length before ≡ pieces_of cut.size cut.lengths
  pub sums : (lists : ℕ → List Line) (p : ℕ) → p < length before
      → ((q : ℕ) → q < p → told_piece cut told q ≡ Some (lists q))
      → get_or before p 0 ≡ lines_before lists p
