-- What inputs hold as the items of their lines.
use Rattle.std.specs.Prelude.{◌≡◌, ℕ, List, map, flat_map, Some, Ok}
use Rattle.item_tree.specs.Datum.{Datum}
use Rattle.item_tree.specs.declared.code.Code.TheVariants.{JNDY0021}
use Rattle.json_text.specs.Line.{Reading, blank, item, fault}
use Rattle.json_text.specs.inside.Build.{reading}
use Rattle.item_reader.specs.Lines.{Line, lines}
use Rattle.item_reader.specs.inside.Items.{items_of}
use Rattle.query_meaning.specs.Library.{Library, held, lines_value}
use Rattle.query_meaning.specs.Outcome.{OrFault, raised, each}
use Rattle.clause_stages.specs.Drivers.{line_item}

-- the item of a line, or its fault, which is raised at the call that reads the input; a blank line,
-- which is none of an input's lines, has no item
abbrev pub item_read : ℕ → Reading → OrFault Datum
item_read place blank = raised JNDY0021 place
item_read place (item x) = Ok x
item_read place (fault code) = raised code place

abbrev pub line_read : ℕ → Line → OrFault Datum
line_read place l = item_read place (reading l.bytes)

-- where each of these names has a file, what `json-lines` gives of them is the items of the lines of
-- the files in order, or the fault of the first line that has one
abbrev pub InputsAreLines : Type 0
InputsAreLines = (library : Library) (names files : List (List ℕ)) (place : ℕ)
    → map (held library) names ≡ map (λ file. Some (items_of file)) files
    → lines_value library names place ≡ each (line_item (line_read place)) (flat_map lines files)
