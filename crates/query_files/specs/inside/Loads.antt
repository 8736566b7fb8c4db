-- The texts of what was put together.
use Rattle.std.specs.Prelude.{◌≡◌, ◌<◌, length, Ok, Err}
use Rattle.query_files.specs.Leaves.{Answered}
use Rattle.query_files.specs.Merged.{Texts}
use Rattle.query_files.specs.declared.finding.Unfound.TheVariants.{NoMemory}

-- the texts are these, and there are some; or memory ran out
abbrev pub HasTexts : Texts → Answered → Type 0
HasTexts texts (Ok found) = (found.texts ≡ texts) × (0 < length texts)
HasTexts texts (Err NoMemory) = Unit {0}
HasTexts texts (Err _) = ⊥
