-- What is left of an input behind its first lines.
use Rattle.std.specs.Prelude.{◌≡◌, ℕ, ◌+◌, List, [], ◌∷◌, Option, None, Some, Ok, length}
use Rattle.item_tree.specs.Item.{datum}
use Rattle.item_tree.specs.declared.item.Item.{Item}
use Rattle.item_reader.specs.Lines.{cut}
use Rattle.item_reader.specs.Reading.{Read, read_before}
use Rattle.json_text.specs.Line.{item}
use Rattle.json_text.specs.inside.Build.{reading}

-- the lines that are still to come, where there is anything behind the last line feed
abbrev pub lines_of : Option (List ℕ) → List (List ℕ)
lines_of None = []
lines_of (Some bytes) = cut bytes

-- how much is left
abbrev pub left_length : Option (List ℕ) → ℕ
left_length None = 0
left_length (Some bytes) = length bytes + 1

-- what lines read as
abbrev pub lines_read : List (List ℕ) → Read
lines_read [] = Ok []
lines_read (line ∷ lines) = read_before (reading line) (lines_read lines)

-- what is left reads as this
abbrev pub left_read : Option (List ℕ) → Read
left_read left = lines_read (lines_of left)

-- an item was taken off what was left, or there was none
abbrev pub GivesNext : Read → Read → Option Item → Type 0
GivesNext before after None = before ≡ Ok []
GivesNext before after (Some x) = before ≡ read_before (item (datum x)) after
