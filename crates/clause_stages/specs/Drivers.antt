-- A `for` over the lines of an input as a driver: lines are read in the step before the `for`, and
-- bound in its own.
use Rattle.std.specs.Prelude.{◌≡◌, ℕ, ◌+◌, ◌≤◌, nat_lt, false, if◌then◌else◌, List, [], ◌∷◌, Option, Some, Ok}
use Rattle.item_tree.specs.Datum.{Datum}
use Rattle.item_tree.specs.declared.fault.Fault.{Fault}
use Rattle.seq_types.specs.declared.types.SeqType.{SeqType}
use Rattle.query_tree.specs.declared.bound.Slot.{Slot}
use Rattle.query_tree.specs.declared.names.Placed.{Placed}
use Rattle.query_tree.specs.Bound.{BoundTree}
use Rattle.query_tree.specs.Plain as p
use Rattle.query_meaning.specs.Outcome.{OrFault, Outcome, ◌>>=◌, each}
use Rattle.query_meaning.specs.Environment.{Tuple, Environment, Inner, in_tuple}
use Rattle.query_meaning.specs.Clauses.{bound_tuple, clause_value}
use Rattle.stage_laws.specs.Runs.{Met}
use Rattle.stage_laws.specs.Stages.{Stage, ended, driver}
use Rattle.stage_laws.specs.Pieces.{Follow}
use Rattle.stage_laws.specs.Ends.{appended, numbered_from, stage}
use Rattle.stage_laws.specs.Laws.{Falls}
use Rattle.clause_stages.specs.Steps.{TupleStage, marked}

-- lines that are not blank, each with its number; the first one's is `n`
abbrev pub numbered_lines : {L : Type 0} → ℕ → List L → List (ℕ × L)
numbered_lines n lines = numbered_from (λ n l. (n, l)) n lines

-- a line gives the item that it reads as
abbrev pub line_item : {L : Type 0} → (L → OrFault Datum) → L → Outcome
line_item read l = read l >>= λ x. Ok (x ∷ [])

-- the same with the number of the line, which is the position of the item
abbrev pub placed_item : {L : Type 0} → (L → OrFault Datum) → ℕ × L → OrFault (List (ℕ × Datum))
placed_item read line = read line.1 >>= λ x. Ok ((line.0, x) ∷ [])

-- the tuple in which the variables of a `for` have an item and its position
abbrev pub item_tuple : Placed Slot → Option (Placed SeqType) → Option (Placed Slot) → Tuple
    → ℕ × Datum → OrFault (List Tuple)
item_tuple variable t at tuple item = bound_tuple variable t at tuple item.0 (item.1 ∷ [])

-- The lines are read in the step of this number, and the `for` is the clause behind it; the other
-- clauses go on from there.
abbrev pub driven_stage : {L B K : Type 0} → ℕ → (L → OrFault Datum) → Placed Slot
    → Option (Placed SeqType) → Option (Placed Slot) → Tuple → TupleStage B K
    → Stage (ℕ × L) B K Fault
driven_stage number read variable t at tuple rest =
    driver number (placed_item read) (driver (number + 1) (item_tuple variable t at tuple) rest)

-- a fault of reading leaves the `for` of this number, as one of binding does; both name its one
-- tuple
abbrev pub driver_marked : {K : Type 0} → ℕ → Met K Fault → Fault
driver_marked number e = record (e.fault) {
  spot = Some (record {
    clause = if nat_lt e.step number then number else e.step;
    tuple = e.tuple;
  });
}

-- an input that is read for its items alone
abbrev pub lines_stage : {L K : Type 0} → (L → OrFault Datum) → Stage L (List Datum) K Fault
lines_stage read = driver 0 (line_item read) ended

abbrev pub unmarked : {K : Type 0} → Met K Fault → Fault
unmarked e = e.fault

-- A `for` over one tuple, whose source gives the items of lines, is a driver, and so is the source
-- alone. They fall into pieces where what is behind them does.
pub record DriversAreStages (L B C K : Type 0) : Type 0 where
  pub means : (inner : Inner) (number last : ℕ) (stream : List Slot) (variable : Placed Slot)
      (t : Option (Placed SeqType)) (at : Option (Placed Slot)) (source : BoundTree)
      (env : Environment) (tuple : Tuple) (read : L → OrFault Datum) (lines : List L) (empty : B)
      (follow : Follow B K Fault) (rest : TupleStage B K) (value : List Tuple → OrFault C)
      (finish : B → OrFault C)
      → inner source (in_tuple env tuple) ≡ each (line_item read) lines
      → Falls (number + 2) last empty follow rest
      → ((tuples : List Tuple) → value tuples ≡ stage marked finish rest tuples)
      → (clause_value inner (number + 1) stream (p.for_clause variable t false at source) env
      (tuple ∷ []) >>= value)
      ≡ stage (driver_marked (number + 1)) finish
      (driven_stage number read variable t at tuple rest) (numbered_lines 1 lines)
  pub falls : (number last : ℕ) (variable : Placed Slot) (t : Option (Placed SeqType))
      (at : Option (Placed Slot)) (tuple : Tuple) (read : L → OrFault Datum) (empty : B)
      (follow : Follow B K Fault) (rest : TupleStage B K)
      → Falls (number + 2) last empty follow rest
      → number + 1 ≤ last
      → Falls number last empty follow (driven_stage number read variable t at tuple rest)
  pub lines : (read : L → OrFault Datum) (lines : List L)
      → each (line_item read) lines
      ≡ stage unmarked (λ items. Ok items) (lines_stage {K = K} read) lines
  pub lines_fall : (read : L → OrFault Datum) → Falls 0 0 [] appended (lines_stage {K = K} read)
