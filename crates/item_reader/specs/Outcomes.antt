-- What a call that reads a line answers, told by the line's reading.
use Rattle.std.specs.Prelude.{◌≡◌, ℕ, List, Option, None, Some, IfSome, Result, Ok, Err}
use Rattle.item_tree.specs.declared.item.Item.{Item}
use Rattle.item_tree.specs.Item.{datum}
use Rattle.json_text.specs.Line.{Reading, blank, item, fault, ReadsAs}
use Rattle.item_reader.specs.declared.fault.LineFault.{LineFault}
use Rattle.item_reader.specs.Faults.{code_of}

-- the reading is this item, or blank where there is none
abbrev pub Gives : Reading → Option Item → Type 0
Gives r None = r ≡ blank
Gives r (Some x) = r ≡ item (datum x)

-- the reading is the code of this fault; of want of memory, which has none, this says nothing
abbrev pub Raises : Reading → LineFault → Type 0
Raises r f = IfSome (code_of f) (λ c. r ≡ fault c)

-- the line reads as what a call answers; where memory ran out, this says nothing
abbrev pub AnswersLine : List ℕ → Result (Option Item) LineFault → Type 0
AnswersLine line (Ok None) = ReadsAs line blank
AnswersLine line (Ok (Some x)) = ReadsAs line (item (datum x))
AnswersLine line (Err f) = IfSome (code_of f) (λ c. ReadsAs line (fault c))
