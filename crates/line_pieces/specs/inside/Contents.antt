-- The lines of a part of a file, as they are gone through.
use Rattle.std.specs.Prelude.{ℕ, ◌+◌, ◌==◌, Bool, not, List, [], ◌∷◌, Option, None, Some, length, map, filter, if◌then◌else◌}
use denote.Ref.{Bor}
use Rattle.json_text.specs.Line.{is_blank}
use Rattle.item_reader.specs.Lines.{Line, cut, placed, without_mark}
use Rattle.line_pieces.specs.declared.lines.LentLine.{LentLine}
use Rattle.line_pieces.specs.Pieces.{lent_line}

-- a line feed
abbrev pub is_end : ℕ → Bool
is_end b = b == 10

-- the bytes of the line at this offset, without a mark where the file begins there
abbrev pub clean : ℕ → List ℕ → List ℕ
clean at bytes = if at == 0 then without_mark bytes else bytes

abbrev pub clean_line : Line → Line
clean_line l = record { at = l.at; bytes = clean l.at l.bytes }

-- the lines that are not blank, without a mark
abbrev pub kept : List Line → List Line
kept ls = filter (λ l. not (is_blank l.bytes)) (map clean_line ls)

-- the line at this offset, unless it is blank
abbrev pub kept_of : ℕ → List ℕ → List Line
kept_of at line = kept (record { at = at; bytes = line } ∷ [])

-- the lines of a part of a file that begins at this offset, where a line begins
abbrev pub lines_at : ℕ → List ℕ → List Line
lines_at at part = kept (placed at (cut part))

-- what is left of a part behind its first lines, with its offset
abbrev pub Left : Type 0
Left = Option (ℕ × List ℕ)

abbrev pub left_of : Option (ℕ × Bor (List ℕ)) → Left
left_of None = None
left_of (Some p) = Some (p.0, p.1.now)

abbrev pub lines_left : Left → List Line
lines_left None = []
lines_left (Some p) = lines_at p.0 p.1

-- how much is left
abbrev pub left_length : Left → ℕ
left_length None = 0
left_length (Some p) = length p.1 + 1

-- a line that is lent, where there is one
abbrev pub lent_lines : Option LentLine → List Line
lent_lines None = []
lent_lines (Some l) = lent_line l ∷ []
