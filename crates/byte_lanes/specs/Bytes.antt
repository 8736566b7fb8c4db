-- What single bytes are in lines and in strings, and where a string stops.
use Rattle.std.specs.Prelude.{ℕ, Bool, ◌||◌, ◌&&◌, not, ◌==◌, nat_le, nat_lt, if◌then◌else◌, List, length, Option, Some, None}
use Rattle.std.specs.List.{prefix_len}

-- a line feed
abbrev pub is_newline : ℕ → Bool
is_newline b = b == 10

-- space, tab and CR
abbrev pub is_line_space : ℕ → Bool
is_line_space b = b == 32 || b == 9 || b == 13

-- a byte of a string that stands for itself: no control character, no quote and no backslash
abbrev pub is_raw : ℕ → Bool
is_raw b = nat_le 32 b && not (b == 34) && not (b == 92)

-- the place of the first byte that doesn't stand for itself, if there is one
abbrev pub first_stop : List ℕ → Option ℕ
first_stop bytes =
    let n = prefix_len is_raw bytes in if nat_lt n (length bytes) then Some n else None
