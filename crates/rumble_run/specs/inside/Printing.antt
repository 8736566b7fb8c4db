-- What is printed of an input as it is read.
use Rattle.std.specs.Prelude.{◌≡◌, ℕ, List, length, Ok, Err}
use Rattle.item_reader.specs.Reading.{Read}
use Rattle.rumble_run.specs.Answer.{output_of}

-- it is what the items of this reading have as output, and their number
abbrev pub Prints : Read → ℕ → List ℕ → Type 0
Prints (Ok items) count out = (count ≡ length items) × (out ≡ output_of items)
Prints (Err code) count out = ⊥
