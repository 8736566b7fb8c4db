-- Tuples with the keys of `group by`, as the code finds them.
use Rattle.std.specs.Prelude.{◌≡◌, ℕ, List, Result, Ok, Err}
use Rattle.item_tree.specs.declared.fault.Fault.{Fault}
use Rattle.tuple_rows.specs.Keys.{Keyed}
use Rattle.stage_laws.specs.Runs.{Met}
use Rattle.clause_eval.specs.Frames.{entries_of}
use Rattle.clause_eval.specs.Grouping.{AllHaveKeys}
use Rattle.piece_outcomes.specs.Came.{Seen}
use Rattle.piece_outcomes.specs.Counting.{met_of}
use Rattle.piece_outcomes.specs.declared.outcome.Outcome.{Outcome}
use Rattle.piece_outcomes.specs.declared.outcome.Outcome.TheVariants as own
use Rattle.piece_outcomes.specs.declared.outcome.Gathered.{Gathered}
use Rattle.piece_outcomes.specs.declared.outcome.Gathered.TheVariants as given
use Rattle.piece_run.specs.declared.came.CameOut.{CameOut}
use Rattle.piece_run.specs.declared.keying.KeyedTuples.{KeyedTuples}
use Rattle.piece_run.specs.declared.keying.KeyedTuples.TheVariants as found

-- all tuples with their keys, or the first fault
abbrev pub KeyedIs : Result (List Keyed) (Met Seen Fault) → KeyedTuples → Type 0
KeyedIs r (found.All entries) = r ≡ Ok (entries_of entries)
KeyedIs r (found.Met m) = r ≡ Err (met_of m)

-- each has so many keys
abbrev pub AllKeyedBy : ℕ → KeyedTuples → Type 0
AllKeyedBy count (found.All entries) = AllHaveKeys count entries.items
AllKeyedBy count (found.Met m) = Unit {0}

-- so has each that came out
abbrev pub OutKeyedBy : {I : Type 0} → ℕ → Outcome (CameOut I) → Type 0
OutKeyedBy count (own.Whole w) = AllHaveKeys count w.keyed.items
OutKeyedBy count (own.Met m) = Unit {0}
OutKeyedBy count own.Clean = Unit {0}

-- and of all that was gathered
abbrev pub GatheredKeyedBy : {I : Type 0} → ℕ → Gathered (CameOut I) → Type 0
GatheredKeyedBy count (given.Whole w) = AllHaveKeys count w.keyed.items
GatheredKeyedBy count (given.Met m) = Unit {0}
