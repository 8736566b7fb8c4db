-- What a `for` over the lines of an input means, with the clauses after it and an end, by what its
-- stage makes of the lines.
use Rattle.std.specs.Prelude.{◌≡◌, ℕ, ◌+◌, Bool, true, false, List, [], ◌∷◌, length, Option, Result, Ok, Err}
use Rattle.item_tree.specs.declared.fault.Fault.{Fault}
use Rattle.item_reader.specs.Lines.{Line}
use Rattle.seq_types.specs.declared.types.SeqType.{SeqType}
use Rattle.tuple_rows.specs.Keys.{KeyList, Keyed}
use Rattle.query_tree.specs.declared.bound.Slot.{Slot}
use Rattle.query_tree.specs.declared.bound.Target.{Target}
use Rattle.query_tree.specs.declared.names.Placed.{Placed}
use Rattle.query_tree.specs.Bound.{BoundTree}
use Rattle.query_tree.specs.Scoped.{and_slots}
use Rattle.query_tree.specs.Plain as p
use Rattle.query_tree.specs.Plain.{PlainClause, PlainClauses, PlainGroupVars, PlainOrderKeys}
use Rattle.query_meaning.specs.Outcome.{OrFault, Outcome, ◌>>=◌, each}
use Rattle.query_meaning.specs.Environment.{Tuple, Environment, Inner, in_tuple}
use Rattle.query_meaning.specs.Clauses.{clause_value}
use Rattle.query_meaning.specs.Flwors.{with_slots, flwor_from}
use Rattle.query_meaning.specs.Orders.{column_places}
use Rattle.query_meaning.specs.Pieces.{are_narrow}
use Rattle.stage_laws.specs.Runs.{Met}
use Rattle.stage_laws.specs.Stages.{Stage}
use Rattle.stage_laws.specs.Ends.{ended_by, in_order}
use Rattle.stage_laws.specs.Laws.{Falls}
use Rattle.clause_stages.specs.Steps.{TupleStage, clauses_stage}
use Rattle.clause_stages.specs.Ends.{numbered, grouped, orders_step, in_key_order}
use Rattle.clause_stages.specs.Values.{how_many, and_clauses, behind_clauses}
use Rattle.clause_stages.specs.Laws.{clause_end}
use Rattle.clause_stages.specs.Drivers.{numbered_lines, line_item, driven_stage, driver_marked}
use Rattle.clause_stages.specs.InputLines.{line_read}
use Rattle.piece_outcomes.specs.Came.{Came, Seen, nothing_came, follow, keyed_came}
use Rattle.piece_outcomes.specs.Counting.{met_of}
use Rattle.piece_outcomes.specs.Outcomes.{ResultIs}
use Rattle.piece_outcomes.specs.Orders as order
use Rattle.piece_outcomes.specs.declared.outcome.Gathered.{Gathered}
use Rattle.piece_outcomes.specs.declared.outcome.Gathered.TheVariants as given
use Rattle.piece_run.specs.Ends.{StageEnd, items, numbers, groups, end_step}

-- A `for` over lines, in one tuple, and the narrow clauses after it. Lines are read in the step
-- `reading`, for the expression at this place of the query; the `for` is the clause of the next
-- number.
pub record LinesFor : Type 0 where
  pub inner : Inner
  pub env : Environment
  pub reading : ℕ
  pub place : ℕ
  pub variable : Placed Slot
  pub of : Option (Placed SeqType)
  pub at : Option (Placed Slot)
  pub source : BoundTree
  pub tuple : Tuple
  pub clauses : PlainClauses Slot Target SeqType

-- the `for`
abbrev pub for_of : LinesFor → PlainClause Slot Target SeqType
for_of d = p.for_clause d.variable d.of false d.at d.source

-- the clauses from the `for` on
abbrev pub all_clauses : LinesFor → PlainClauses Slot Target SeqType
all_clauses d = p.more_clauses (for_of d) d.clauses

-- what is bound after these clauses, where those before them bind these slots
abbrev pub bound_after : LinesFor → List Slot → List Slot
bound_after d stream = and_slots stream (all_clauses d)

-- the source, which is evaluated so, gives the items of these lines
abbrev pub GivesLines : Inner → LinesFor → List Line → Type 0
GivesLines outer d lines =
    outer d.source (in_tuple d.env d.tuple) ≡ each (line_item (line_read d.place)) lines

-- the stage of these clauses, where it ends in this step
abbrev pub input_stage : {B K : Type 0} → LinesFor → (ℕ → TupleStage B K)
    → Stage (ℕ × Line) B K Fault
input_stage d last_step =
    driven_stage d.reading (line_read d.place) d.variable d.of d.at d.tuple
    (clauses_stage d.inner (d.reading + 2) d.clauses d.env last_step)

-- the number of its end, which is the last step
abbrev pub end_number : LinesFor → ℕ
end_number d = d.reading + 2 + how_many d.clauses

-- The stage falls into pieces.
pub record DrivenStagesFall : Type 0 where
  pub ends : (d : LinesFor) (end : StageEnd)
      → Falls d.reading (end_number d) nothing_came follow
      (input_stage d (end_step d.inner d.env end))
  pub orders : (d : LinesFor) (keys : PlainOrderKeys Slot Target SeqType)
      → Falls d.reading (end_number d) []
      (in_order (end_number d) (order.clash_at (column_places keys)))
      (input_stage d (orders_step d.inner keys d.env))

-- what it makes of all lines of the input
abbrev pub lines_run : {B K : Type 0} → LinesFor → (ℕ → TupleStage B K) → List Line
    → Result B (Met K Fault)
lines_run d last_step lines = (input_stage d last_step).run (numbered_lines 1 lines)

-- what an end makes of it; a fault is marked with its clause and tuple
abbrev pub lines_ended : {B C K : Type 0} → LinesFor → (B → OrFault C) → Result B (Met K Fault)
    → OrFault C
lines_ended d finish r = ended_by (driver_marked (d.reading + 1)) finish r

-- what is made of the tuples of the `for`, whose source is evaluated by `outer`
abbrev pub for_then : {C : Type 0} → Inner → LinesFor → List Slot → (List Tuple → OrFault C)
    → OrFault C
for_then outer d stream next =
    clause_value outer (d.reading + 1) stream (for_of d) d.env (d.tuple ∷ []) >>= next

-- what comes of the `for`, of these clauses after it, and of `return`
abbrev pub from_for : Inner → LinesFor → List Slot → PlainClauses Slot Target SeqType → BoundTree
    → Outcome
from_for outer d stream clauses body =
    for_then outer d stream
    (flwor_from d.inner (d.reading + 2) (with_slots stream (for_of d)) clauses body d.env)

-- what comes of the `for` and the narrow clauses after it, and after them of `count`, `group by` or
-- `order by`
abbrev pub clauses_to : Inner → LinesFor → List Slot → PlainClause Slot Target SeqType
    → OrFault (List Tuple)
clauses_to outer d stream c =
    for_then outer d stream
    (behind_clauses d.inner (d.reading + 2) (with_slots stream (for_of d)) d.clauses d.env
    (clause_end d.inner c d.env))

-- What is finished of what the stage makes of the lines is what is meant by the clauses and
-- `return`, `count`, `group by` or `order by` after them. The source alone may be evaluated in
-- another way than the rest. What was gathered goes on into the clauses after that.
pub record DrivenStagesGiveValues : Type 0 where
  pub items : (outer : Inner) (d : LinesFor) (stream : List Slot) (lines : List Line)
      (body : BoundTree) → GivesLines outer d lines → are_narrow d.clauses ≡ true
      → from_for outer d stream d.clauses body
      ≡ lines_ended d (λ came. Ok came.items)
      (lines_run d (end_step d.inner d.env (items body)) lines)
  pub numbers : (outer : Inner) (d : LinesFor) (stream : List Slot) (lines : List Line) (place : ℕ)
      (variable : Placed Slot) → GivesLines outer d lines → are_narrow d.clauses ≡ true
      → clauses_to outer d stream (p.count_clause place variable)
      ≡ lines_ended d (λ came. Ok (numbered variable came.tuples))
      (lines_run d (end_step d.inner d.env numbers) lines)
  pub groups : (outer : Inner) (d : LinesFor) (stream : List Slot) (lines : List Line) (place : ℕ)
      (keys : PlainGroupVars Slot Target SeqType) → GivesLines outer d lines
      → are_narrow d.clauses ≡ true
      → clauses_to outer d stream (p.group_clause place keys)
      ≡ lines_ended d (λ came. Ok (grouped keys d.env (bound_after d stream) came.keyed))
      (lines_run d (end_step d.inner d.env (groups keys)) lines)
  pub orders : (outer : Inner) (d : LinesFor) (stream : List Slot) (lines : List Line) (place : ℕ)
      (stable : Bool) (keys : PlainOrderKeys Slot Target SeqType) → GivesLines outer d lines
      → are_narrow d.clauses ≡ true
      → clauses_to outer d stream (p.order_clause place stable keys)
      ≡ lines_ended d (λ keyed. Ok (in_key_order keys keyed))
      (lines_run d (orders_step d.inner keys d.env) lines)
  pub goes_on : (outer : Inner) (d : LinesFor) (stream : List Slot)
      (c : PlainClause Slot Target SeqType) (rest : PlainClauses Slot Target SeqType)
      (body : BoundTree)
      → from_for outer d stream (and_clauses d.clauses (p.more_clauses c rest)) body
      ≡ (clauses_to outer d stream c >>= flwor_from d.inner (end_number d + 1)
      (with_slots (bound_after d stream) c) rest body d.env)

-- Clauses see no frame but those of their tuples: of the frame outside, they use its length.
abbrev pub FramesAreTuples : Type 0
FramesAreTuples = (inner : Inner) (number : ℕ) (stream : List Slot)
    (clauses : PlainClauses Slot Target SeqType) (body : BoundTree) (env : Environment)
    (frame : Tuple) (tuples : List Tuple) → length frame ≡ length env.frame
    → flwor_from inner number stream clauses body (in_tuple env frame) tuples
    ≡ flwor_from inner number stream clauses body env tuples

-- ---- what was gathered

-- What was gathered is what is meant: all that came out, from which `finish` makes it; or its
-- fault, marked from the `for` of this number on.
abbrev pub GatheredMeans : {W B C : Type 0} → (W → B → Type 0) → (B → OrFault C) → ℕ → OrFault C
    → Gathered W → Type 0
GatheredMeans {B = B} stands finish number meant (given.Whole w) =
    (came : B) × stands w came × (meant ≡ finish came)
GatheredMeans stands finish number meant (given.Met m) =
    meant ≡ Err (driver_marked number (met_of {K = Seen} m))

-- Where what was gathered is what a stage makes of the whole, and what is meant is what is finished
-- of that, it is what is meant.
pub record ResultsMean {W : Type 0} (stands : W → Came → Type 0) (C : Type 0) : Type 0 where
  pub came : (g : Gathered W) (r : Result Came (Met Seen Fault)) (finish : Came → OrFault C)
      (number : ℕ) (meant : OrFault C) → ResultIs stands g r
      → meant ≡ ended_by (driver_marked number) finish r
      → GatheredMeans stands finish number meant g
  pub ordered : (g : Gathered W) (r : Result (List Keyed) (Met KeyList Fault))
      (finish : List Keyed → OrFault C) (number : ℕ) (meant : OrFault C)
      → order.ResultIs stands g r → meant ≡ ended_by (driver_marked number) finish r
      → GatheredMeans (λ w keyed. stands w (keyed_came keyed)) finish number meant g
