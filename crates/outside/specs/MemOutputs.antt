-- What contracts see of numbered sinks in memory, and what a call leaves of them.
use Rattle.std.specs.Prelude.{ℕ, ◌+◌, ◌-◌, ◌^◌, ◌++◌, ◌≤◌, ◌⊎◌, List, [], ◌∷◌, Contains, Result, Ok, Err, length, map, nat_lt}
use Rattle.outside.specs.Counted.{count_up, count_if}
use Rattle.outside.specs.InMemory.{BoundedSink}
use Rattle.outside.specs.Outputs.{Made}
use Rattle.outside.specs.declared.outputs.CreateFault.{CreateFault}

-- so many sinks of this room at most; the numbers that fail; how many sinks were given out and not
-- finished; those that were finished, in this order; and how often something failed
pub record NumberedSinks : Type 0 where
  pub count : ℕ
  pub room : ℕ
  pub fails : List ℕ
  pub pending : ℕ
  pub done : List BoundedSink
  pub faults : ℕ

abbrev pub made_of : NumberedSinks → Made
made_of s = map (λ o. (o.label, o.written)) s.done

abbrev pub created_of : NumberedSinks → ℕ
created_of s = length s.done + s.pending

-- sinks of which none was given out
abbrev pub new_outputs : ℕ → ℕ → List ℕ → NumberedSinks
new_outputs count room fails = record {
  count = count;
  room = room;
  fails = fails;
  pending = 0;
  done = [];
  faults = 0;
}

-- the number is one that fails, or all sinks were given out
abbrev pub CreateFails : NumberedSinks → ℕ → Type 0
CreateFails s number = Contains s.fails number ⊎ (s.count ≤ created_of s)

-- a sink before its first write, with a room that it takes at once where need be
abbrev pub empty_sink : ℕ → ℕ → BoundedSink
empty_sink room label = record {
  label = label;
  written = [];
  room = room;
  most = 2 ^ 64 - 1;
  faults = 0;
}

-- one more sink was given out, or one more fault was counted
abbrev pub after_create : NumberedSinks → Result BoundedSink CreateFault → NumberedSinks
after_create s (Ok sink) = record s { pending = s.pending + 1 }
after_create s (Err e) = record s { faults = count_up s.faults }

-- one more sink was finished, and one more fault where it had any
abbrev pub after_finish : NumberedSinks → BoundedSink → NumberedSinks
after_finish s sink = record s {
  pending = s.pending - 1;
  done = s.done ++ sink ∷ [];
  faults = count_if (nat_lt 0 sink.faults) s.faults;
}
