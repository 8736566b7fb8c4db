-- What an input reads as: its lines, one by one, each as JSON's grammar and meaning have it.
use Rattle.std.specs.Prelude.{◌≡◌, ℕ, List, [], ◌∷◌, Result, Ok, Err}
use Rattle.item_tree.specs.Datum.{Datum}
use Rattle.item_tree.specs.declared.code.Code.{Code}
use Rattle.json_text.specs.Line.{Reading, blank, item, fault, ReadsAs}
use Rattle.item_reader.specs.Lines.{Line, lines}

-- the items of lines in order, or the code of the first line that is at fault
abbrev pub Read : Type 0
Read = Result (List Datum) Code

-- what lines read as, of which the first reads as this and the others together as that
abbrev pub read_before : Reading → Read → Read
read_before blank rest = rest
read_before (item x) (Ok xs) = Ok (x ∷ xs)
read_before (item x) (Err c) = Err c
read_before (fault c) rest = Err c

-- each line reads as something, and all of them together as this
abbrev pub LinesReadAs : List Line → Read → Type 0
LinesReadAs [] r = r ≡ Ok []
LinesReadAs (l ∷ ls) r =
    (first : Reading) × (rest : Read)
    × ReadsAs l.bytes first × LinesReadAs ls rest × (r ≡ read_before first rest)

-- an input reads as its items, or as the code of its first line that is at fault
-- (as one of these, and only one: that is the law `inputs_are_exact`)
abbrev pub InputReadsAs : List ℕ → Read → Type 0
InputReadsAs input r = LinesReadAs (lines input) r
