-- A `for` over the lines of an input, the narrow clauses after it, and an end, as a stage. Lines
-- are read in the step `reading`, for the expression at the stage's place of the query; the `for`
-- has the next number, and its clauses those after that.
use Rattle.std.specs.Prelude.{◌≡◌, ℕ, List, Option, Some, None}
use Rattle.item_tree.specs.declared.fault.Fault.{Fault}
use Rattle.item_reader.specs.Lines.{Line}
use Rattle.seq_types.specs.declared.types.SeqType.{SeqType}
use Rattle.tuple_rows.specs.Keys.{KeyList, Keyed}
use Rattle.query_tree.specs.declared.bound.Slot.{Slot}
use Rattle.query_tree.specs.declared.bound.Target.{Target}
use Rattle.query_tree.specs.declared.names.Placed.{Placed}
use Rattle.query_tree.specs.Plain.{PlainOrderKeys}
use Rattle.query_meaning.specs.inside.Views.{tuple_of}
use Rattle.stage_laws.specs.Stages.{Stage}
use Rattle.clause_stages.specs.Drivers.{driven_stage}
use Rattle.clause_stages.specs.InputLines.{line_read}
use Rattle.clause_stages.specs.Steps.{TupleStage}
use Rattle.piece_outcomes.specs.Came.{Came, Seen}
use Rattle.piece_run.specs.Staged.{tuples_stage, ordered_stage}
use Rattle.piece_run.specs.declared.stage.DrivenStage.{DrivenStage}

-- Lines whose first one has the number `first` may be given the number `n`: any, where the `for`
-- has no variable for it.
abbrev pub MayBegin : Option (Placed Slot) → (first n : ℕ) → Type 0
MayBegin None first n = Unit {0}
MayBegin (Some at) first n = n ≡ first

-- the driver, and after it what is run on the tuples of its `for`
abbrev pub driven_by : {F B K : Type 0} → DrivenStage F → TupleStage B K
    → Stage (ℕ × Line) B K Fault
driven_by s rest =
    driven_stage s.reading (line_read s.place) s.binding.variable.now s.binding.of.now
    s.binding.at.now (tuple_of s.leading.now) rest

-- the whole stage, on lines with their numbers in the input
abbrev pub stage_of : {F : Type 0} → DrivenStage F → Stage (ℕ × Line) Came Seen Fault
stage_of s = driven_by s (tuples_stage s)

-- the same, where it ends in `order by` these keys
abbrev pub order_stage_of : {F : Type 0} → DrivenStage F → PlainOrderKeys Slot Target SeqType
    → Stage (ℕ × Line) (List Keyed) KeyList Fault
order_stage_of s keys = driven_by s (ordered_stage s keys)
