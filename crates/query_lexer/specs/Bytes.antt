-- Classes of bytes.
use Rattle.std.specs.Prelude.{ℕ, Bool, false, ◌||◌, ◌&&◌, ◌==◌, nat_le, List, [], ◌∷◌, codes}
use Rattle.std.specs.Char.{is_ascii_digit}

abbrev pub is_between : ℕ → ℕ → ℕ → Bool
is_between low high b = nat_le low b && nat_le b high

-- an ASCII letter or _
unfoldable pub is_letter : ℕ → Bool
is_letter b = is_between 97 122 b || is_between 65 90 b || b == 95

-- a letter, a digit or -
unfoldable pub is_name_byte : ℕ → Bool
is_name_byte b = is_letter b || is_ascii_digit b || b == 45

-- space, tab, CR, LF
unfoldable pub is_blank : ℕ → Bool
is_blank b = b == 32 || b == 9 || b == 13 || b == 10

abbrev pub is_sign : ℕ → Bool
is_sign b = b == 43 || b == 45

abbrev pub is_one_of : List ℕ → ℕ → Bool
is_one_of [] b = false
is_one_of (c ∷ cs) b = b == c || is_one_of cs b

-- the marks of one byte
unfoldable pub is_mark : ℕ → Bool
is_mark b = is_one_of (codes "()[]{},;:.!|+-*=<>#?") b

-- the marks of two bytes: {| |} || := != <= >=
unfoldable pub is_double_mark : ℕ → ℕ → Bool
is_double_mark b c =
    (b == 123 && c == 124) || (b == 124 && is_one_of (codes "}|") c)
    || (is_one_of (codes ":!<>") b && c == 61)

-- the first byte passes
abbrev pub next_passes : (ℕ → Bool) → List ℕ → Bool
next_passes p [] = false
next_passes p (b ∷ r) = p b
