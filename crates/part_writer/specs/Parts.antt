-- The parts of a text, each of so many of its lines.
use Rattle.std.specs.Prelude.{◌≡◌, ◌≤◌, ◌⊎◌, ◌+◌, ◌*◌, ◌++◌, ℕ, suc, zero, List, [], ◌∷◌, length, map, max, count_by, slice_range, if◌then◌else◌}
use Rattle.std.specs.Int.{div_ceil}
use Rattle.std.specs.List.{range_with_len}
use Rattle.byte_lanes.specs.Bytes.{is_newline}
use Rattle.outside.specs.Outputs.{Made}

-- where the line of this number begins, numbered from 0: behind as many line feeds; where there are
-- not so many, the text's end
unfoldable pub line_start : ℕ → List ℕ → ℕ
line_start zero text = 0
line_start (suc k) [] = 0
line_start (suc k) (b ∷ text) =
    suc (line_start (if is_newline b then k else suc k) text)

-- how many lines each of so many parts has: as few as will do, and at least one
abbrev pub lines_each : ℕ → List ℕ → ℕ
lines_each count text = max 1 (div_ceil (count_by is_newline text) count)

-- where a part begins and ends, if each has so many lines
abbrev pub part_range : ℕ → List ℕ → ℕ → ℕ × ℕ
part_range each text number =
    (line_start (number * each) text, line_start ((number + 1) * each) text)

-- the same of so many parts, in order
abbrev pub part_ranges : ℕ → List ℕ → List (ℕ × ℕ)
part_ranges count text = map (part_range (lines_each count text) text) (range_with_len 0 count)

-- what stands in these ranges, numbered from here on
abbrev pub parts_from : ℕ → List ℕ → List (ℕ × ℕ) → Made
parts_from number text [] = []
parts_from number text (r ∷ rs) =
    (number, slice_range text r.0 r.1) ∷ parts_from (number + 1) text rs

-- so many parts of a text, numbered from 0
abbrev pub parts_of : ℕ → List ℕ → Made
parts_of count text = parts_from 0 text (part_ranges count text)

-- a range that stands in the text
abbrev pub IsRangeOf : List ℕ → ℕ × ℕ → Type 0
IsRangeOf text range = (range.0 ≤ range.1) × (range.1 ≤ length text)

-- parts put together
abbrev pub joined : Made → List ℕ
joined [] = []
joined (part ∷ parts) = part.1 ++ joined parts

-- a text of whole lines, each with its line feed
abbrev pub EndsLine : List ℕ → Type 0
EndsLine text = (text ≡ []) ⊎ ((front : List ℕ) × (text ≡ front ++ 10 ∷ []))
