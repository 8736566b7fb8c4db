-- Narrow clauses as the steps of a stage. A step has the number of its clause, from 1.
use Rattle.std.specs.Prelude.{ℕ, ◌+◌, List, [], Some, Ok}
use Rattle.item_tree.specs.declared.fault.Fault.{Fault}
use Rattle.seq_types.specs.declared.types.SeqType.{SeqType}
use Rattle.query_tree.specs.declared.bound.Slot.{Slot}
use Rattle.query_tree.specs.declared.bound.Target.{Target}
use Rattle.query_tree.specs.Plain as p
use Rattle.query_tree.specs.Plain.{PlainClause, PlainClauses}
use Rattle.query_meaning.specs.Outcome.{OrFault}
use Rattle.query_meaning.specs.Environment.{Tuple, Environment, Inner}
use Rattle.query_meaning.specs.Clauses.{for_tuples, let_tuples, where_tuples, count_tuples}
use Rattle.stage_laws.specs.Runs.{Met}
use Rattle.stage_laws.specs.Stages.{Stage, narrow}

-- a stage that takes in the tuples of a FLWOR, and meets the faults of queries
abbrev pub TupleStage : (B K : Type 0) → Type 0
TupleStage B K = Stage Tuple B K Fault

-- the fault that a fault met in a stage stands for: it names the clause that it left, and the tuple
abbrev pub marked : {K : Type 0} → Met K Fault → Fault
marked e = record (e.fault) { spot = Some (record { clause = e.step; tuple = e.tuple }) }

-- what a clause gives for a tuple at a position, which only `count` looks at; clauses that group or
-- order have nothing to do with one tuple
abbrev pub tuples_at : Inner → PlainClause Slot Target SeqType → Environment → ℕ → Tuple
    → OrFault (List Tuple)
tuples_at inner (p.for_clause variable t allowing_empty at source) env n tuple =
    for_tuples inner variable t allowing_empty at source env tuple
tuples_at inner (p.let_clause variable t e) env n tuple = let_tuples inner variable t e env tuple
tuples_at inner (p.where_clause place test) env n tuple = where_tuples inner test env tuple
tuples_at inner (p.count_clause place variable) env n tuple = count_tuples variable n tuple
tuples_at inner (p.group_clause place keys) env n tuple = Ok []
tuples_at inner (p.order_clause place stable keys) env n tuple = Ok []

-- the clauses from this number on, each a step, and behind them an end at its own number
abbrev pub clauses_stage : {B K : Type 0} → Inner → ℕ → PlainClauses Slot Target SeqType
    → Environment → (ℕ → TupleStage B K) → TupleStage B K
clauses_stage inner number p.no_clauses env last_step = last_step number
clauses_stage inner number (p.more_clauses c cs) env last_step =
    narrow number (tuples_at inner c env 0) (clauses_stage inner (number + 1) cs env last_step)
