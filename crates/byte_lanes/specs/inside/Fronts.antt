-- The front of a string, as far as a walk has seen it and as a whole.
use Rattle.std.specs.Prelude.{◌≡◌, ℕ, ◌<◌, ◌≤◌, Bool, true, List, length, take, slice_index}
use Rattle.std.specs.Char.{is_ascii}
use Rattle.std.specs.List.{list_all, prefix_len}
use Rattle.byte_lanes.specs.Bytes.{is_raw}

-- the bytes up to at stand for themselves, and are ASCII or not
pub record IsSeen (b : List ℕ) (at : ℕ) (ascii : Bool) : Type 0 where
  pub within : at ≤ length b
  pub raw : (k : ℕ) → k < at → is_raw (slice_index b k) ≡ true
  pub plain : ascii ≡ list_all is_ascii (take at b)

-- the bytes up to end are all that stand for themselves, and are ASCII or not
pub record IsFront (b : List ℕ) (end : ℕ) (ascii : Bool) : Type 0 where
  pub value : end ≡ prefix_len is_raw b
  pub plain : ascii ≡ list_all is_ascii (take end b)
