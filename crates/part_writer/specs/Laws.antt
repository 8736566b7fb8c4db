-- A law of parts.
use Rattle.std.specs.Prelude.{◌≡◌, ◌<◌, ℕ, List}
use Rattle.part_writer.specs.Parts.{parts_of, joined, EndsLine}

-- the parts of a text of whole lines, put together, are the text
abbrev pub PartsAreWhole : Type 0
PartsAreWhole =
    (count : ℕ) (text : List ℕ) → 0 < count → EndsLine text → joined (parts_of count text) ≡ text
