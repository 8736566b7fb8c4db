-- Laws of inputs.
use Rattle.std.specs.Prelude.{◌≡◌, ℕ, List}
use Rattle.item_reader.specs.Reading.{Read, InputReadsAs}
use Rattle.item_reader.specs.inside.Items.{items_of}

-- an input reads as the items or the fault that a reader computes, and as nothing else
pub record InputsAreExact : Type 0 where
  pub read : (input : List ℕ) → InputReadsAs input (items_of input)
  pub one : (input : List ℕ) (r : Read) → InputReadsAs input r → r ≡ items_of input
