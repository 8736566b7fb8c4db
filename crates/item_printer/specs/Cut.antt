-- What stands where memory ran out in the midst of a text.
use Rattle.std.specs.Prelude.{◌≡◌, ℕ, List, ◌++◌, take}

-- the new bytes are the old ones and a prefix of the text
pub record IsCut (text old new : List ℕ) : Type 0 where
  pub kept : ℕ
  pub is : new ≡ old ++ take kept text
