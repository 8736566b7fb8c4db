-- Texts that are numbers.
use Rattle.std.specs.Prelude.{◌≡◌, ◌-◌, ◌^◌, Option, Some, None, true}
use Rattle.run_words.specs.Table.{Text, is_number_in}

-- a text that is a number of 32 bits, where it is there
abbrev pub IsNumberText : Option Text → Type 0
IsNumberText None = Unit
IsNumberText (Some text) = is_number_in 0 (2 ^ 32 - 1) text ≡ true
