-- The list of the parts of a text.
use Rattle.std.specs.Prelude.{◌+◌, ◌/◌, ◌%◌, ◌++◌, ℕ, List, [], ◌∷◌, length, codes}
use Rattle.std.specs.Fmt.{decimal}
use Rattle.outside.specs.Outputs.{Made}

-- the decimal digits of a number below 10,000, with zeros in front
abbrev pub four_digits : ℕ → List ℕ
four_digits n =
    (48 + n / 1000) ∷ (48 + n / 100 % 10) ∷ (48 + n / 10 % 10) ∷ (48 + n % 10) ∷ []

abbrev pub part_name : ℕ → List ℕ
part_name number = codes "part-" ++ four_digits number

-- a part's name, one space, and its number of bytes
abbrev pub part_line : ℕ × List ℕ → List ℕ
part_line part = part_name part.0 ++ 32 ∷ decimal (length part.1) ++ 10 ∷ []

-- a line for each part
abbrev pub list_of : Made → List ℕ
list_of [] = []
list_of (part ∷ parts) = part_line part ++ list_of parts
