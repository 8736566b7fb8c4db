-- How a string holds its bytes.
use Rattle.std.specs.Prelude.{◌≡◌, ℕ, ◌-◌, ◌<◌, ◌≤◌, nat_lt, if◌then◌else◌, List, length, slice_index, take, drop, replicate}
use Rattle.std.specs.Arc.{arc_value}
use Rattle.std.specs.Str.{IsUtf8}
use Rattle.std.specs.String.{string_bytes}
use Rattle.item_tree.specs.declared.str_bytes.StrBytes.{StrBytes}
use Rattle.item_tree.specs.declared.str_bytes.StrBytes.TheVariants.{Short, Medium, Shared}

abbrev pub bytes_of : StrBytes → List ℕ
bytes_of (Short n bytes) = take n bytes
bytes_of (Medium n bytes) = take n (arc_value bytes)
bytes_of (Shared text) = string_bytes (arc_value text)

-- so many of the bytes are a text, and the others are zeros
pub record IsShort (n : ℕ) (bytes : List ℕ) : Type 0 where
  pub few : n ≤ 14
  pub whole : length bytes ≡ 14
  pub text : IsUtf8 (take n bytes)
  pub zeros : drop n bytes ≡ replicate (14 - n) 0

-- so many of the bytes are a text, which is not short; nothing is said of the others
pub record IsMedium (n : ℕ) (bytes : List ℕ) : Type 0 where
  pub many : 14 < n
  pub few : n ≤ 48
  pub whole : length bytes ≡ 48
  pub text : IsUtf8 (take n bytes)

-- each text is held in one of the three ways alone
abbrev pub IsHeld : StrBytes → Type 0
IsHeld (Short n bytes) = IsShort n bytes
IsHeld (Medium n bytes) = IsMedium n (arc_value bytes)
IsHeld (Shared text) = 48 < length (string_bytes (arc_value text))

-- a byte of a front of so many bytes, or zero behind it
abbrev pub front_byte : ℕ → List ℕ → ℕ → ℕ
front_byte n bytes i = if nat_lt i n then slice_index bytes i else 0

-- so many bytes of the front, and zeros behind them
abbrev pub IsFront : ℕ → List ℕ → List ℕ → Type 0
IsFront n bytes front = (i : ℕ) → i < length front → slice_index front i ≡ front_byte n bytes i
