-- Laws of the clauses of a FLWOR as stages.
use Rattle.std.specs.Prelude.{◌≡◌, ℕ, ◌+◌, ◌≤◌, Bool, true, List, [], length, Ok}
use Rattle.item_tree.specs.Datum.{Datum}
use Rattle.item_tree.specs.declared.fault.Fault.{Fault}
use Rattle.seq_types.specs.declared.types.SeqType.{SeqType}
use Rattle.query_tree.specs.declared.bound.Slot.{Slot}
use Rattle.query_tree.specs.declared.bound.Target.{Target}
use Rattle.query_tree.specs.declared.names.Placed.{Placed}
use Rattle.query_tree.specs.Bound.{BoundTree}
use Rattle.query_tree.specs.Scoped.{and_slots}
use Rattle.query_tree.specs.Plain as p
use Rattle.query_tree.specs.Plain.{PlainClause, PlainClauses, PlainGroupVars, PlainOrderKeys}
use Rattle.query_meaning.specs.Outcome.{OrFault, ◌>>=◌}
use Rattle.query_meaning.specs.Environment.{Tuple, Environment, Inner}
use Rattle.query_meaning.specs.Clauses.{clause_value}
use Rattle.query_meaning.specs.Flwors.{with_slots, return_value, flwor_from}
use Rattle.query_meaning.specs.Pieces.{are_narrow, taken_in}
use Rattle.stage_laws.specs.Pieces.{Follow}
use Rattle.stage_laws.specs.Ends.{appended, in_order, stage}
use Rattle.stage_laws.specs.Laws.{ClearBelow, Falls}
use Rattle.clause_stages.specs.Steps.{TupleStage, marked, clauses_stage}
use Rattle.clause_stages.specs.Ends.{tuples_step, items_step, numbers_step, numbered, groups_step, grouped, orders_step, order_clash, in_key_order}
use Rattle.clause_stages.specs.Values.{how_many, and_clauses, EndValue, behind_clauses, IsEnd, TakesSoMany}

-- Narrow clauses with an end behind them are the stage of these clauses; and it falls into pieces,
-- where the step of the end does.
pub record ClausesAreStages (B C K : Type 0) : Type 0 where
  pub means : (inner : Inner) (number : ℕ) (stream : List Slot)
      (clauses : PlainClauses Slot Target SeqType) (env : Environment) (value : EndValue C)
      (last_step : ℕ → TupleStage B K) (finish : List Slot → B → OrFault C)
      → are_narrow clauses ≡ true → IsEnd value last_step finish → (tuples : List Tuple)
      → behind_clauses inner number stream clauses env value tuples
      ≡ stage marked (finish (and_slots stream clauses))
      (clauses_stage inner number clauses env last_step) tuples
  pub falls : (inner : Inner) (number last : ℕ) (clauses : PlainClauses Slot Target SeqType)
      (env : Environment) (empty : B) (follow : Follow B K Fault) (last_step : ℕ → TupleStage B K)
      → number + how_many clauses ≤ last + 1
      → Falls (number + how_many clauses) last empty follow (last_step (number + how_many clauses))
      → Falls number last empty follow (clauses_stage inner number clauses env last_step)

-- what the clause of a number comes to as an end
abbrev pub clause_end : Inner → PlainClause Slot Target SeqType → Environment
    → EndValue (List Tuple)
clause_end inner c env number stream tuples = clause_value inner number stream c env tuples

abbrev pub return_end : Inner → BoundTree → Environment → EndValue (List Datum)
return_end inner body env number stream tuples = return_value inner number body env tuples

-- the ends that see no more than one tuple, and what is finished of what they give
pub record EndsAreSteps (K : Type 0) : Type 0 where
  pub tuples :
      IsEnd {K = K} (λ number stream tuples. Ok tuples) tuples_step (λ stream tuples. Ok tuples)
  pub items : (inner : Inner) (body : BoundTree) (env : Environment)
      → IsEnd {K = K} (return_end inner body env) (items_step inner body env)
      (λ stream items. Ok items)
  pub numbers : (inner : Inner) (place : ℕ) (variable : Placed Slot) (env : Environment)
      → IsEnd {K = K} (clause_end inner (p.count_clause place variable) env) numbers_step
      (λ stream tuples. Ok (numbered variable tuples))
  pub groups : (inner : Inner) (place : ℕ) (keys : PlainGroupVars Slot Target SeqType)
      (env : Environment)
      → IsEnd {K = K} (clause_end inner (p.group_clause place keys) env)
      (groups_step inner keys env)
      (λ stream keyed. Ok (grouped keys env stream keyed))
  pub tuples_fall : (first last : ℕ) → Falls first last [] appended (tuples_step {K = K} first)
  pub items_fall : (inner : Inner) (body : BoundTree) (env : Environment) (number : ℕ)
      → Falls number number [] appended (items_step {K = K} inner body env number)
  pub numbers_fall : (number : ℕ) → Falls number number [] appended (numbers_step {K = K} number)
  pub groups_fall : (inner : Inner) (keys : PlainGroupVars Slot Target SeqType) (env : Environment)
      (number : ℕ) → Falls number number [] appended (groups_step {K = K} inner keys env number)

-- `order by` looks at all tuples before one
pub record OrdersAreSteps : Type 0 where
  pub orders : (inner : Inner) (place : ℕ) (stable : Bool)
      (keys : PlainOrderKeys Slot Target SeqType) (env : Environment)
      → IsEnd (clause_end inner (p.order_clause place stable keys) env) (orders_step inner keys env)
      (λ stream keyed. Ok (in_key_order keys keyed))
  pub orders_fall : (inner : Inner) (keys : PlainOrderKeys Slot Target SeqType) (env : Environment)
      (number : ℕ)
      → Falls number number [] (in_order number (order_clash keys))
      (orders_step inner keys env number)

-- A FLWOR of narrow clauses is a stage that `return` ends. Where a gathered clause stands in it,
-- what comes of the clauses up to that one goes on into the clauses behind it.
pub record FlworsAreStages (K : Type 0) : Type 0 where
  pub means : (inner : Inner) (number : ℕ) (stream : List Slot)
      (clauses : PlainClauses Slot Target SeqType) (body : BoundTree) (env : Environment)
      → are_narrow clauses ≡ true → (tuples : List Tuple)
      → flwor_from inner number stream clauses body env tuples
      ≡ stage marked (λ items. Ok items)
      (clauses_stage {K = K} inner number clauses env (items_step inner body env)) tuples
  pub falls : (inner : Inner) (number : ℕ) (clauses : PlainClauses Slot Target SeqType)
      (body : BoundTree) (env : Environment)
      → Falls number (number + how_many clauses) [] appended
      (clauses_stage {K = K} inner number clauses env (items_step inner body env))
  pub ends : (inner : Inner) (number : ℕ) (stream : List Slot)
      (clauses : PlainClauses Slot Target SeqType) (body : BoundTree) (env : Environment)
      (tuples : List Tuple)
      → flwor_from inner number stream clauses body env tuples
      ≡ behind_clauses inner number stream clauses env (return_end inner body env) tuples
  pub goes_on : (inner : Inner) (number : ℕ) (stream : List Slot)
      (clauses rest : PlainClauses Slot Target SeqType) (c : PlainClause Slot Target SeqType)
      (body : BoundTree) (env : Environment) (tuples : List Tuple)
      → flwor_from inner number stream (and_clauses clauses (p.more_clauses c rest)) body env tuples
      ≡ (behind_clauses inner number stream clauses env (clause_end inner c env) tuples
      >>= flwor_from inner (number + how_many clauses + 1)
      (with_slots (and_slots stream clauses) c) rest body env)

-- a stage counts the tuples that clauses take in, up to the first fault; and those that the end
-- takes in, where its step does
abbrev pub ClausesTakeIn : (B K : Type 0) → Type 0
ClausesTakeIn B K = (inner : Inner) (number : ℕ) (stream : List Slot)
    (clauses : PlainClauses Slot Target SeqType) (env : Environment)
    (last_step : ℕ → TupleStage B K) (clause : ℕ) (tuples : List Tuple)
    → are_narrow clauses ≡ true → number ≤ clause → clause ≤ number + how_many clauses
    → (clause ≡ number + how_many clauses → (tuples : List Tuple)
    → (last_step (number + how_many clauses)).into (number + how_many clauses) tuples
    ≡ length tuples)
    → ClearBelow clause ((clauses_stage inner number clauses env last_step).run tuples)
    → TakesSoMany (taken_in inner number stream clauses env clause tuples)
    ((clauses_stage inner number clauses env last_step).into clause tuples)
