-- Where bytes end that begin at a place.
use Rattle.std.specs.Prelude.{ℕ, ◌+◌, ◌==◌, nat_lt, not, List, if◌then◌else◌, count_by, take_while, reverse}
use Rattle.text_places.specs.Places.{begins_character}

abbrev pub newlines : List ℕ → ℕ
newlines bytes = count_by (λ b. b == 10) bytes

-- the characters behind the last LF
abbrev pub last_characters : List ℕ → ℕ
last_characters bytes =
    count_by begins_character (take_while (λ b. not (b == 10)) (reverse bytes))

abbrev pub line_behind : ℕ → List ℕ → ℕ
line_behind line bytes = line + newlines bytes

abbrev pub column_behind : ℕ → List ℕ → ℕ
column_behind column bytes =
    if nat_lt 0 (newlines bytes) then last_characters bytes + 1 else column + last_characters bytes
