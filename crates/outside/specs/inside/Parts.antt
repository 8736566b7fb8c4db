-- The parts that objects in memory are made of. No caller needs these.
use Rattle.std.specs.Prelude.{◌≤◌, ◌<◌, ◌≡◌, ◌+◌, ◌-◌, ◌^◌, ℕ, Bool, List, Option, None, Some, Result, Ok, Err, All, length, min}
use Rattle.outside.specs.Counted.{count_up, count_if}
use Rattle.outside.specs.InMemory.{FailingFiles, BoundedSink}
use Rattle.outside.specs.MemOutputs.{empty_sink}
use Rattle.outside.specs.declared.input.OpenFault.{OpenFault}
use Rattle.outside.specs.declared.input.OpenFault.TheVariants.{Missing, Failed, NoMemory}

-- what looking for a file answers, by the bytes of the file of this name
abbrev pub Gives : Option (List ℕ) → Result (List ℕ) OpenFault → Type 0
Gives file (Ok bytes) = file ≡ Some bytes
Gives file (Err Missing) = file ≡ None
Gives file (Err Failed) = ⊥
Gives file (Err NoMemory) = Unit {0}

-- one more open was asked for, and it is a fault where it failed
abbrev pub after_ask : FailingFiles → Bool → FailingFiles
after_ask s failed = record s { opens = count_up s.opens; faults = count_if failed s.faults }

-- the room that was asked for stands ready, and only a sink that is stuck has faults
pub record KeepsRoom (written capacity room most faults : ℕ) : Type 0 where
  pub within : written ≤ room
  pub reserved : room ≤ capacity
  pub stuck : 0 < faults → min most (room - written) ≡ 0

-- sinks of this room that wait for their numbers
abbrev pub AllSpare : ℕ → List BoundedSink → Type 0
AllSpare room spare = All (λ sink. sink ≡ empty_sink room 0) spare

-- each sink is spare, given out or finished, and a finished one finds room
pub record KeepsSinks (spare : List BoundedSink) (room pending done capacity count : ℕ)
    : Type 0 where
  pub fresh : AllSpare room spare
  pub parted : length spare + (done + pending) ≡ count
  pub reserved : count ≤ capacity
  pub counted : count < 2 ^ 32
