-- What the lines of an input read as, one by one, is what a reader computes. For other crates too.
use Rattle.std.specs.Prelude.{◌≡◌, List, [], ◌∷◌, refl}
use Rattle.std.proofs.Common.{◌∙◌, ap}
use Rattle.json_text.specs.inside.Build.{reading}
use Rattle.json_text.proofs.ReadingLemmas.{reading_exact}
use Rattle.item_reader.specs.Lines.{Line, lines}
use Rattle.item_reader.specs.Reading.{Read, read_before, LinesReadAs}
use Rattle.item_reader.specs.inside.Items.{items_of_lines}
use Rattle.item_reader.specs.Laws.{InputsAreExact}

lines_read : (ls : List Line) → LinesReadAs ls (items_of_lines ls)
lines_read [] = refl
lines_read (l ∷ ls) = (reading l.bytes, items_of_lines ls, reading_exact.read l.bytes, lines_read ls, refl)

lines_one : (ls : List Line) (r : Read) → LinesReadAs ls r → r ≡ items_of_lines ls
lines_one [] r h = h
lines_one (l ∷ ls) r h =
    h.4 ∙ ap (λ x. read_before x h.1) (reading_exact.one l.bytes h.0 h.2)
    ∙ ap (read_before (reading l.bytes)) (lines_one ls h.1 h.3)

pub inputs_exact : InputsAreExact
inputs_exact = record { read = λ input. lines_read (lines input); one = λ input r h. lines_one (lines input) r h }
