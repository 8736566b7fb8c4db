-- Laws of texts and of readings.
use Rattle.std.specs.Prelude.{◌≡◌, ℕ, List}
use Rattle.std.specs.Str.{IsUtf8}
use Rattle.item_tree.specs.Datum.{Datum, Sound}
use Rattle.item_tree.specs.ItemText.{item_text}
use Rattle.json_text.specs.Raw.{Raw}
use Rattle.json_text.specs.Json.{Json}
use Rattle.json_text.specs.Line.{Reading, item, ReadsAs}
use Rattle.json_text.specs.Plain.{plain}
use Rattle.json_text.specs.Undated.{Undated}
use Rattle.json_text.specs.inside.Build.{reading}

-- a text says one raw value
abbrev pub OneRawValue : Type 0
OneRawValue = (t : List ℕ) (v w : Raw) → Json t v → Json t w → v ≡ w

-- a text is in UTF-8
abbrev pub TextsAreUtf8 : Type 0
TextsAreUtf8 = (t : List ℕ) (v : Raw) → Json t v → IsUtf8 t

-- a line reads as what a reader makes of it, and as nothing else
pub record ReadingIsExact : Type 0 where
  pub read : (line : List ℕ) → ReadsAs line (reading line)
  pub one : (line : List ℕ) (r : Reading) → ReadsAs line r → r ≡ reading line

-- an item that a line reads as is within its bounds, with different keys, at every level
abbrev pub ItemsAreSound : Type 0
ItemsAreSound = (line : List ℕ) (x : Datum) → ReadsAs line (item x) → Sound x

-- no line reads as an item with a date or date-time in it
abbrev pub ItemsAreUndated : Type 0
ItemsAreUndated = (line : List ℕ) (x : Datum) → ReadsAs line (item x) → Undated x

-- the text of an item reads as the item, with an equal integer in place of each decimal whose value
-- is whole, and a string in place of each date and date-time
abbrev pub PrintedReadsBack : Type 0
PrintedReadsBack = (x : Datum) → Sound x → ReadsAs (item_text x) (item (plain x))
