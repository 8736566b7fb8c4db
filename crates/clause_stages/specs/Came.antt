-- What comes out of narrow clauses, be it tuples or the items of `return`, and what is told of a
-- run of them at a limit.
use Rattle.std.specs.Prelude.{◌≡◌, ℕ, ◌+◌, ◌<◌, ◌≤◌, true, List, [], ◌++◌, Option, Some, None, Ok, Err}
use Rattle.item_tree.specs.Datum.{Datum}
use Rattle.item_tree.specs.declared.fault.Fault.{Fault}
use Rattle.seq_types.specs.declared.types.SeqType.{SeqType}
use Rattle.query_tree.specs.declared.bound.Slot.{Slot}
use Rattle.query_tree.specs.declared.bound.Target.{Target}
use Rattle.query_tree.specs.Bound.{BoundTree}
use Rattle.query_tree.specs.Plain.{PlainClauses}
use Rattle.query_meaning.specs.Outcome.{OrFault, ◌>>=◌}
use Rattle.query_meaning.specs.Environment.{Tuple, Environment, Inner}
use Rattle.query_meaning.specs.Flwors.{return_value, flwor_from}
use Rattle.query_meaning.specs.Pieces.{are_narrow, taken_in, clause_left}
use Rattle.stage_laws.specs.Stages.{Stage, narrow}
use Rattle.stage_laws.specs.Pieces.{Follow, Known, known, clear, SoFar}
use Rattle.stage_laws.specs.Ends.{merged, stage}
use Rattle.stage_laws.specs.Laws.{Falls, Tells, reach}
use Rattle.stage_laws.specs.Tuples.{Began}
use Rattle.clause_stages.specs.Steps.{marked, clauses_stage}
use Rattle.clause_stages.specs.Ends.{returned}
use Rattle.clause_stages.specs.Values.{how_many, behind_clauses, TakesSoMany}

-- what comes out behind the last step: tuples, or the items of `return`
pub record Came : Type 0 where
  pub tuples : List Tuple
  pub items : List Datum

abbrev pub nothing_came : Came
nothing_came = record { tuples = []; items = [] }

abbrev pub came_behind : Came → Came → Came
came_behind a b = record { tuples = a.tuples ++ b.tuples; items = a.items ++ b.items }

-- no step but an order sees keys
abbrev pub Seen : Type 0
Seen = Unit {0}

abbrev pub follow : Follow Came Seen Fault
follow = merged came_behind

abbrev pub StageFor : Type 0 → Type 0
StageFor A = Stage A Came Seen Fault

abbrev pub tuples_out : StageFor Tuple
tuples_out = record { run = λ ts. Ok (record { tuples = ts; items = [] }); into = λ c ts. 0 }

abbrev pub items_out : StageFor Datum
items_out = record { run = λ ds. Ok (record { tuples = []; items = ds }); into = λ c ds. 0 }

-- `return`, where it is there, or else the tuples
abbrev pub last_stage : Inner → ℕ → Option BoundTree → Environment → StageFor Tuple
last_stage inner number None env = tuples_out
last_stage inner number (Some body) env = narrow number (returned inner body env) items_out

-- the clauses from this number on, and `return`, if it is there
abbrev pub stage_from : Inner → ℕ → PlainClauses Slot Target SeqType → Option BoundTree
    → Environment → StageFor Tuple
stage_from inner number clauses body env =
    clauses_stage inner number clauses env (λ n. last_stage inner n body env)

abbrev pub steps_of : Option BoundTree → ℕ
steps_of None = 0
steps_of (Some body) = 1

-- the number of the last step of such a stage
abbrev pub IsLast : ℕ → PlainClauses Slot Target SeqType → Option BoundTree → ℕ → Type 0
IsLast number clauses body last = number + how_many clauses + steps_of body ≡ last + 1

-- ---- in the words of the meaning

-- the tuples that clauses give
abbrev pub clauses_value : Inner → ℕ → List Slot → PlainClauses Slot Target SeqType → Environment
    → List Tuple → OrFault (List Tuple)
clauses_value inner number stream clauses env tuples =
    behind_clauses inner number stream clauses env (λ n s ts. Ok ts) tuples

-- these tuples, or the items that `return` gives for them
abbrev pub end_value : Inner → ℕ → Option BoundTree → Environment → List Tuple → OrFault Came
end_value inner number None env tuples = Ok (record { tuples = tuples; items = [] })
end_value inner number (Some body) env tuples = do
  items ← return_value inner number body env tuples
  Ok (record { tuples = []; items = items })

-- what clauses give, and `return`, if it is there
abbrev pub came_value : Inner → ℕ → List Slot → PlainClauses Slot Target SeqType → Option BoundTree
    → Environment → List Tuple → OrFault Came
came_value inner number stream clauses body env tuples =
    behind_clauses inner number stream clauses env (λ n s ts. end_value inner n body env ts) tuples

-- ---- a run at a limit

-- no clause before this one faults
abbrev pub CleanBefore : ℕ → OrFault Came → Type 0
CleanBefore clause (Ok w) = Unit {0}
CleanBefore clause (Err fault) = clause ≤ clause_left fault

-- what is known of a run at a limit, by what is meant
abbrev pub TellsOf : (last limit : ℕ) → OrFault Came → Known Came Seen Fault → Type 0
TellsOf last limit meant (known (Ok w)) = (limit ≡ last + 1) × (meant ≡ Ok w)
TellsOf last limit meant (known (Err e)) = (e.step < limit) × (meant ≡ Err (marked e))
TellsOf last limit meant (clear l) = (l ≡ limit) × (limit ≤ last) × CleanBefore limit meant

-- What is told of a run of the clauses below a limit: all that comes out; or the first fault, which
-- is in a clause below the limit; or that no clause below it faults. And how many tuples each
-- clause takes in, up to the limit or the clause of the fault.
pub record Runs (inner : Inner) (number : ℕ) (stream : List Slot)
    (clauses : PlainClauses Slot Target SeqType) (body : Option BoundTree) (env : Environment)
    (last limit : ℕ) (tuples : List Tuple) (g : SoFar Came Seen Fault) : Type 0 where
  pub tells : TellsOf last limit (came_value inner number stream clauses body env tuples) g.what
  pub into : (c : ℕ) → number ≤ c → c ≤ reach last g.what
      → TakesSoMany (taken_in inner number stream clauses env c tuples) (g.into c)

-- The stage of narrow clauses falls into pieces, and gives what is meant; and where what is known
-- tells of tuples, in the words of stages, so it does in those of the meaning.
pub record RunsTell : Type 0 where
  pub falls : (inner : Inner) (number last : ℕ) (clauses : PlainClauses Slot Target SeqType)
      (body : Option BoundTree) (env : Environment) → IsLast number clauses body last
      → Falls number last nothing_came follow (stage_from inner number clauses body env)
  pub means : (inner : Inner) (number : ℕ) (stream : List Slot)
      (clauses : PlainClauses Slot Target SeqType) (body : Option BoundTree) (env : Environment)
      (tuples : List Tuple) → are_narrow clauses ≡ true
      → came_value inner number stream clauses body env tuples
      ≡ stage marked (λ w. Ok w) (stage_from inner number clauses body env) tuples
  pub tuples : (inner : Inner) (number : ℕ) (stream : List Slot)
      (clauses : PlainClauses Slot Target SeqType) (env : Environment) (tuples : List Tuple)
      → clauses_value inner number stream clauses env tuples
      ≡ (came_value inner number stream clauses None env tuples >>= λ w. Ok w.tuples)
  pub items : (inner : Inner) (number : ℕ) (stream : List Slot)
      (clauses : PlainClauses Slot Target SeqType) (body : BoundTree) (env : Environment)
      (tuples : List Tuple)
      → flwor_from inner number stream clauses body env tuples
      ≡ (came_value inner number stream clauses (Some body) env tuples >>= λ w. Ok w.items)
  pub runs : (inner : Inner) (number last limit : ℕ) (stream : List Slot)
      (clauses : PlainClauses Slot Target SeqType) (body : Option BoundTree) (env : Environment)
      (tuples : List Tuple) (g : SoFar Came Seen Fault) → are_narrow clauses ≡ true
      → IsLast number clauses body last → Began last limit g.what
      → Tells number last (stage_from inner number clauses body env) tuples g
      → Runs inner number stream clauses body env last limit tuples g
