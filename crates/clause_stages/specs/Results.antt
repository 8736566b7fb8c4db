-- Results on pieces, in the words of the meaning.
use Rattle.std.specs.Prelude.{◌≡◌, ℕ, ◌+◌, ◌≤◌, true, false, List, [], ◌∷◌, Option, Some, Ok}
use Rattle.item_tree.specs.Datum.{Datum}
use Rattle.item_tree.specs.declared.fault.Fault.{Fault}
use Rattle.fault_merge.specs.Enough.{AllEnough}
use Rattle.seq_types.specs.declared.types.SeqType.{SeqType}
use Rattle.query_tree.specs.declared.bound.Slot.{Slot}
use Rattle.query_tree.specs.declared.bound.Target.{Target}
use Rattle.query_tree.specs.declared.names.Placed.{Placed}
use Rattle.query_tree.specs.Bound.{BoundTree}
use Rattle.query_tree.specs.Scoped.{and_slots}
use Rattle.query_tree.specs.Plain as p
use Rattle.query_tree.specs.Plain.{PlainClauses}
use Rattle.query_meaning.specs.Outcome.{OrFault, ◌>>=◌, each}
use Rattle.query_meaning.specs.Environment.{Tuple, Environment, Inner, in_tuple}
use Rattle.query_meaning.specs.Clauses.{clause_value}
use Rattle.query_meaning.specs.Pieces.{are_narrow}
use Rattle.stage_laws.specs.Runs.{Met}
use Rattle.stage_laws.specs.Stages.{Stage, kept_as}
use Rattle.stage_laws.specs.Pieces.{PieceDone, step_told, Follow, concat, nothing_yet, gathered}
use Rattle.stage_laws.specs.Ends.{appended, result_of, stage}
use Rattle.stage_laws.specs.Laws.{Falls, AllWithin, AllCarry}
use Rattle.clause_stages.specs.Steps.{TupleStage, marked, clauses_stage}
use Rattle.clause_stages.specs.Values.{how_many, EndValue, behind_clauses, IsEnd}
use Rattle.clause_stages.specs.Drivers.{numbered_lines, line_item, driven_stage, driver_marked, lines_stage, unmarked}

-- these are the outcomes of a stage on pieces of a list, at limits that are enough
pub record AreOutcomes {A B K : Type 0} (first last : ℕ) (s : Stage A B K Fault)
    (pieces : List (List A)) (ds : List (PieceDone B K Fault)) : Type 0 where
  pub within : AllWithin (last + 1) ds
  pub carry : AllCarry first last s pieces ds
  pub enough : AllEnough step_told (last + 1) ds

-- What is gathered of the outcomes of pieces is what is meant: by narrow clauses and an end behind
-- them, where the pieces are of their tuples; by a `for` over lines, and what is behind it, where
-- the pieces are of these lines; and by lines alone. What is kept of what comes out is enough where
-- all that is finished depends on it.
pub record PiecesGiveValues (L B C K : Type 0) : Type 0 where
  pub clauses : (inner : Inner) (number last : ℕ) (stream : List Slot)
      (clauses : PlainClauses Slot Target SeqType) (env : Environment) (value : EndValue C)
      (last_step : ℕ → TupleStage B K) (finish : List Slot → B → OrFault C) (empty : B)
      (follow : Follow B K Fault) (pieces : List (List Tuple)) (ds : List (PieceDone B K Fault))
      → are_narrow clauses ≡ true → IsEnd value last_step finish
      → number + how_many clauses ≤ last + 1
      → Falls (number + how_many clauses) last empty follow (last_step (number + how_many clauses))
      → AreOutcomes number last (clauses_stage inner number clauses env last_step) pieces ds
      → result_of marked (finish (and_slots stream clauses))
      (gathered follow (nothing_yet empty) ds).what
      ≡ Some (behind_clauses inner number stream clauses env value (concat pieces))
  pub drivers : (inner : Inner) (number last : ℕ) (stream : List Slot) (variable : Placed Slot)
      (t : Option (Placed SeqType)) (at : Option (Placed Slot)) (source : BoundTree)
      (env : Environment) (tuple : Tuple) (read : L → OrFault Datum) (lines : List L) (empty : B)
      (follow : Follow B K Fault) (rest : TupleStage B K) (value : List Tuple → OrFault C)
      (finish : B → OrFault C) (pieces : List (List (ℕ × L))) (ds : List (PieceDone B K Fault))
      → inner source (in_tuple env tuple) ≡ each (line_item read) lines
      → Falls (number + 2) last empty follow rest → number + 1 ≤ last
      → ((tuples : List Tuple) → value tuples ≡ stage marked finish rest tuples)
      → concat pieces ≡ numbered_lines 1 lines
      → AreOutcomes number last (driven_stage number read variable t at tuple rest) pieces ds
      → result_of (driver_marked (number + 1)) finish (gathered follow (nothing_yet empty) ds).what
      ≡ Some (clause_value inner (number + 1) stream (p.for_clause variable t false at source) env
      (tuple ∷ []) >>= value)
  pub lines : (read : L → OrFault Datum) (pieces : List (List L))
      (ds : List (PieceDone (List Datum) K Fault))
      → AreOutcomes 0 0 (lines_stage read) pieces ds
      → result_of unmarked (λ items. Ok items) (gathered appended (nothing_yet []) ds).what
      ≡ Some (each (line_item read) (concat pieces))
  pub kept : (mark : Met K Fault → Fault) (s : Stage L (List Datum) K Fault) (view : List Datum → B)
      (finish : List Datum → OrFault C) (finish_kept : B → OrFault C)
      → ((items : List Datum) → finish items ≡ finish_kept (view items)) → (xs : List L)
      → stage mark finish s xs ≡ stage mark finish_kept (kept_as view s) xs
