-- The items of an input, computed: what an input reads as is the same, by `inputs_are_exact`.
use Rattle.std.specs.Prelude.{ℕ, List, [], ◌∷◌, Ok}
use Rattle.json_text.specs.inside.Build.{reading}
use Rattle.item_reader.specs.Lines.{Line, lines}
use Rattle.item_reader.specs.Reading.{Read, read_before}

abbrev pub items_of_lines : List Line → Read
items_of_lines [] = Ok []
items_of_lines (l ∷ ls) = read_before (reading l.bytes) (items_of_lines ls)

-- the items of an input, or the code of the first line that has one
abbrev pub items_of : List ℕ → Read
items_of input = items_of_lines (lines input)
