-- The lines of a trial.
use Rattle.std.specs.Prelude.{ℕ, zero, suc, ◌+◌, ◌*◌, ◌/◌, ◌%◌, ◌==◌, List, [], ◌∷◌, ◌++◌, if◌then◌else◌, codes}
use Rattle.std.specs.Fmt.{decimal}

-- the state behind this one, below 2^31
abbrev pub drawn : ℕ → ℕ
drawn state = (state * 1103515245 + 12345) % 2147483648

-- hundredths, with two digits behind the point
abbrev pub cents : ℕ → List ℕ
cents draw =
    decimal (draw / 100) ++ codes "." ++ (48 + draw % 100 / 10) ∷ (48 + draw % 100 % 10) ∷ []

-- `[DRAW]`, and a line feed
abbrev pub array_line : ℕ → List ℕ
array_line draw = codes "[" ++ decimal draw ++ codes "]\n"

-- `{"id":NUMBER,"k":"gK","v":CENTS}` with K the rest of the draw by three, and a line feed
abbrev pub object_line : ℕ → ℕ → List ℕ
object_line number draw =
    codes "{\"id\":" ++ decimal number ++ codes ",\"k\":\"g" ++ decimal (draw % 3)
    ++ codes "\",\"v\":" ++ cents draw ++ codes "}\n"

abbrev pub line : ℕ → ℕ → List ℕ
line number draw = if draw % 7 == 0 then array_line draw else object_line number draw

-- so many lines from this number on, where the state before them is given: it is stepped before
-- each line, and the draw of the line is its upper half
abbrev pub lines_from : ℕ → ℕ → ℕ → List ℕ
lines_from number state zero = []
lines_from number state (suc count) =
    line number (drawn state / 65536) ++ lines_from (suc number) (drawn state) count

-- the lines of a trial, the first of which has the number 1
abbrev pub made_lines : ℕ → ℕ → List ℕ
made_lines number lines = lines_from 1 number lines
