-- What the two steps of a driver give below a limit: lines are read, and their items are bound.
use Rattle.std.specs.Prelude.{◌≡◌, ℕ, ◌+◌, ◌<◌, ◌≤◌, List, Ok, Err}
use Rattle.item_tree.specs.Datum.{Datum}
use Rattle.item_reader.specs.Lines.{Line}
use Rattle.query_meaning.specs.Outcome.{OrFault, each, each_from}
use Rattle.query_meaning.specs.Environment.{Tuple}
use Rattle.query_meaning.specs.inside.Views.{tuple_of}
use Rattle.clause_stages.specs.Drivers.{line_item}
use Rattle.clause_stages.specs.InputLines.{line_read}
use Rattle.clause_eval.specs.Frames.{tuples_of}
use Rattle.clause_eval.specs.OneByOne.{bound_item}
use Rattle.piece_run.specs.declared.driver.Driven.{Driven}
use Rattle.piece_run.specs.declared.driver.Driven.TheVariants as own
use Rattle.piece_run.specs.declared.stage.DrivenStage.{DrivenStage}

-- the items of lines
abbrev pub read_lines : {F : Type 0} → DrivenStage F → List Line → OrFault (List Datum)
read_lines s lines = each (line_item (line_read s.place)) lines

-- the tuples that the `for` makes of items, the first of which has this number
abbrev pub bind_items : {F : Type 0} → DrivenStage F → ℕ → List Datum → OrFault (List Tuple)
bind_items s first items =
    each_from (bound_item s.binding.variable.now s.binding.of.now s.binding.at.now
    (tuple_of s.leading.now)) first items

-- What is given below a limit, by what reading gives. A fault is in a step below the limit.
abbrev pub GivesBelow : {F : Type 0} → DrivenStage F → (first limit : ℕ) → OrFault (List Datum)
    → Driven → Type 0
GivesBelow s first limit (Ok items) (own.Tuples frames) =
    bind_items s first items ≡ Ok (tuples_of frames)
GivesBelow s first limit (Ok items) (own.Met m) =
    (m.step ≡ s.reading + 1) × (m.tuple ≡ 1) × (bind_items s first items ≡ Err m.fault)
    × (m.step < limit)
GivesBelow s first limit (Ok items) own.Clean = limit ≤ s.reading + 1
GivesBelow s first limit (Err fault) (own.Tuples frames) = ⊥
GivesBelow s first limit (Err fault) (own.Met m) =
    (m.step ≡ s.reading) × (m.tuple ≡ 1) × (m.fault ≡ fault) × (m.step < limit)
GivesBelow s first limit (Err fault) own.Clean = limit ≤ s.reading
