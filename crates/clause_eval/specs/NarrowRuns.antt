-- What narrow clauses come to, one after the other on whole lists.
use Rattle.std.specs.Prelude.{◌≡◌, ℕ, ◌+◌, ◌<◌, ◌≤◌, length, List, [], Vec, Option, Some, None, Ok, Err}
use Rattle.std.specs.declared.alloc.Global.{Global}
use Rattle.query_meaning.specs.declared.value.Value.{Value}
use Rattle.query_meaning.specs.inside.Views.{items_of}
use Rattle.clause_eval.specs.Frames.{tuples_of}
use Rattle.clause_eval.specs.declared.tuples.Frame.{Frame}
use Rattle.item_tree.specs.declared.fault.Fault.{Fault}
use Rattle.seq_types.specs.declared.types.SeqType.{SeqType}
use Rattle.query_tree.specs.Bound.{BoundTree}
use Rattle.query_tree.specs.declared.bound.Slot.{Slot}
use Rattle.query_tree.specs.declared.bound.Target.{Target}
use Rattle.query_tree.specs.Plain as p
use Rattle.query_tree.specs.Plain.{PlainClauses}
use Rattle.query_meaning.specs.Outcome.{OrFault, ◌>>=◌}
use Rattle.query_meaning.specs.Environment.{Tuple, Environment, Inner}
use Rattle.query_meaning.specs.Clauses.{clause_value}
use Rattle.query_meaning.specs.Flwors.{with_slots, return_value}
use Rattle.query_meaning.specs.Pieces.{taken_in, clause_left}
use Rattle.stage_laws.specs.Pieces.{Known, known, clear}
use Rattle.stage_laws.specs.Laws.{reach}
use Rattle.piece_outcomes.specs.Counting.{marked}
use Rattle.clause_eval.specs.Carrying.{Came, Seen, known_of, counted}
use Rattle.clause_eval.specs.declared.progress.Progress.{Progress}

-- the tuples that clauses give
abbrev pub clauses_value : Inner → ℕ → List Slot → PlainClauses Slot Target SeqType → Environment
    → List Tuple → OrFault (List Tuple)
clauses_value inner number stream p.no_clauses env tuples = Ok tuples
clauses_value inner number stream (p.more_clauses c cs) env tuples = do
  next ← clause_value inner number stream c env tuples
  clauses_value inner (number + 1) (with_slots stream c) cs env next

-- these tuples, or the items that `return` gives for them
abbrev pub end_value : Inner → ℕ → Option BoundTree → Environment → List Tuple → OrFault Came
end_value inner number None env tuples = Ok (record { tuples = tuples; items = [] })
end_value inner number (Some body) env tuples = do
  items ← return_value inner number body env tuples
  Ok (record { tuples = []; items = items })

-- what clauses give, and `return` if it is there
abbrev pub came_value : Inner → ℕ → List Slot → PlainClauses Slot Target SeqType → Option BoundTree
    → Environment → List Tuple → OrFault Came
came_value inner number stream p.no_clauses body env tuples =
    end_value inner number body env tuples
came_value inner number stream (p.more_clauses c cs) body env tuples = do
  next ← clause_value inner number stream c env tuples
  came_value inner (number + 1) (with_slots stream c) cs body env next

-- ---- a run at a limit

-- no clause before this one faults
abbrev pub CleanBefore : ℕ → OrFault Came → Type 0
CleanBefore clause (Ok w) = Unit {0}
CleanBefore clause (Err fault) = clause ≤ clause_left fault

abbrev pub TellsOf : (last limit : ℕ) → OrFault Came → Known Came Seen Fault → Type 0
TellsOf last limit meant (known (Ok w)) = (limit ≡ last + 1) × (meant ≡ Ok w)
TellsOf last limit meant (known (Err e)) = (e.step < limit) × (meant ≡ Err (marked e))
TellsOf last limit meant (clear l) = (l ≡ limit) × (limit ≤ last) × CleanBefore limit meant

-- a clause takes in so many tuples
abbrev pub TakesSoMany : OrFault (List Tuple) → ℕ → Type 0
TakesSoMany (Ok tuples) n = n ≡ length tuples
TakesSoMany (Err fault) n = ⊥

-- What is told of a run of the clauses below a limit: all that comes out; or the first fault, which
-- is in a clause below the limit; or that no clause below it faults. And how many tuples each
-- clause takes in, up to the limit or the clause of the fault.
pub record Runs (inner : Inner) (number : ℕ) (stream : List Slot)
    (cs : PlainClauses Slot Target SeqType) (body : Option BoundTree) (env : Environment)
    (last limit : ℕ) (tuples : List Tuple) (p : Progress) : Type 0 where
  pub tells : TellsOf last limit (came_value inner number stream cs body env tuples)
      (known_of p.what)
  pub into : (c : ℕ) → number ≤ c → c ≤ reach last (known_of p.what)
      → TakesSoMany (taken_in inner number stream cs env c tuples) (counted p c)

abbrev pub came_of : Vec Frame Global × Value → Came
came_of w = record { tuples = tuples_of w.0; items = items_of w.1 }
