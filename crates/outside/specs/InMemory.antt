-- What contracts see of the objects that stand in memory.
use Rattle.std.specs.Prelude.{◌≤◌, ◌≡◌, ◌⊎◌, ◌-◌, ℕ, List, Vec, Contains, length, map, min}
use Rattle.outside.specs.Counted.{count_up}
use Rattle.outside.specs.Opens.{InputCounts}
use Rattle.outside.specs.World.{World}

-- files as the world that they are
abbrev pub world_of : {Z : Type 0} → List (List ℕ × Vec ℕ Z) → World
world_of files = map (λ f. (f.0, f.1.items)) files

-- files with the counts that all kinds of inputs in memory have, and files that never fail
pub record CountedFiles : Type 0 where
  pub files : World
  pub misses : ℕ
  pub opened : ℕ
  pub closed : ℕ

-- their counts, with this one of faults
abbrev pub counts_of : ℕ → CountedFiles → InputCounts
counts_of faults t = record {
  faults = faults;
  misses = t.misses;
  opened = t.opened;
  closed = t.closed;
}

-- files that never fail, and whose reads give at most so many bytes
pub record SlowFiles : Type 0 where
  pub table : CountedFiles
  pub most : ℕ

-- an open file of these
pub record SlowBytes : Type 0 where
  pub held : List ℕ
  pub most : ℕ

-- files of which some opens fail, by their numbers, and some calls, by the number of the open and
-- that of the call on its file
pub record FailingFiles : Type 0 where
  pub table : CountedFiles
  pub failing_opens : List ℕ
  pub failing_calls : List (ℕ × ℕ)
  pub opens : ℕ
  pub faults : ℕ

-- an open file of these, with the number of its open and of the calls so far
pub record FailingBytes : Type 0 where
  pub held : List ℕ
  pub number : ℕ
  pub failing_calls : List (ℕ × ℕ)
  pub calls : ℕ
  pub faults : ℕ

-- the number of the next open, or of the next call on the file, is one of those that fail
abbrev pub NextOpenFails : FailingFiles → Type 0
NextOpenFails s = Contains s.failing_opens (count_up s.opens)

abbrev pub NextCallFails : FailingBytes → Type 0
NextCallFails f = Contains f.failing_calls (f.number, count_up f.calls)

-- a sink with a room, which takes at most so many bytes at once
pub record BoundedSink : Type 0 where
  pub label : ℕ
  pub written : List ℕ
  pub room : ℕ
  pub most : ℕ
  pub faults : ℕ

abbrev pub room_left : BoundedSink → ℕ
room_left s = s.room - length s.written

-- how many bytes of a piece it takes
abbrev pub takes_of : BoundedSink → List ℕ → ℕ
takes_of s bytes = min s.most (min (room_left s) (length bytes))

-- a sink that can take no further byte
abbrev pub IsStuck : BoundedSink → Type 0
IsStuck s = (s.room ≤ length s.written) ⊎ (s.most ≡ 0)
