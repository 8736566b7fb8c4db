-- Where the lines of a piece stand in bytes that were read.
use Rattle.std.specs.Prelude.{◌≤◌, ◌<◌, ◌+◌, ◌^◌, ℕ, List, length, slice_range}
use Rattle.item_reader.specs.Lines.{Line}
use Rattle.line_pieces.specs.declared.part.Part.{Part}
use Rattle.line_pieces.specs.inside.Contents.{lines_at}

-- the part stands in these bytes, and its places in the file have 64 bits
pub record IsPartOf (bytes : List ℕ) (part : Part) : Type 0 where
  pub order : part.skipped ≤ part.filled
  pub inside : part.filled ≤ length bytes
  pub fits : part.at + part.filled < part.skipped + 2 ^ 64

-- its bytes, from its first line on
abbrev pub part_bytes : List ℕ → Part → List ℕ
part_bytes bytes part = slice_range bytes part.skipped part.filled

-- its lines
abbrev pub part_lines : List ℕ → Part → List Line
part_lines bytes part = lines_at part.at (part_bytes bytes part)
