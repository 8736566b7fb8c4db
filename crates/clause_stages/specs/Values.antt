-- What clauses come to with something behind them, in the words of the meaning.
use Rattle.std.specs.Prelude.{◌≡◌, ℕ, zero, suc, ◌+◌, List, length, Ok, Err}
use Rattle.seq_types.specs.declared.types.SeqType.{SeqType}
use Rattle.query_tree.specs.declared.bound.Slot.{Slot}
use Rattle.query_tree.specs.declared.bound.Target.{Target}
use Rattle.query_tree.specs.Plain as p
use Rattle.query_tree.specs.Plain.{PlainClauses}
use Rattle.query_meaning.specs.Outcome.{OrFault, ◌>>=◌}
use Rattle.query_meaning.specs.Environment.{Tuple, Environment, Inner}
use Rattle.query_meaning.specs.Clauses.{clause_value}
use Rattle.query_meaning.specs.Flwors.{with_slots}
use Rattle.stage_laws.specs.Ends.{stage}
use Rattle.clause_stages.specs.Steps.{TupleStage, marked}

abbrev pub how_many : PlainClauses Slot Target SeqType → ℕ
how_many p.no_clauses = zero
how_many (p.more_clauses c cs) = suc (how_many cs)

-- clauses, and behind them more
abbrev pub and_clauses : PlainClauses Slot Target SeqType → PlainClauses Slot Target SeqType
    → PlainClauses Slot Target SeqType
and_clauses p.no_clauses ds = ds
and_clauses (p.more_clauses c cs) ds = p.more_clauses c (and_clauses cs ds)

-- what comes of tuples at the number of a clause, where the clauses before it bind these slots
abbrev pub EndValue : Type 0 → Type 0
EndValue C = ℕ → List Slot → List Tuple → OrFault C

-- the clauses from this number on, each on the whole list of tuples that the one before it gives,
-- and behind them an end
abbrev pub behind_clauses : {C : Type 0} → Inner → ℕ → List Slot → PlainClauses Slot Target SeqType
    → Environment → EndValue C → List Tuple → OrFault C
behind_clauses inner number stream p.no_clauses env value tuples = value number stream tuples
behind_clauses inner number stream (p.more_clauses c cs) env value tuples = do
  next ← clause_value inner number stream c env tuples
  behind_clauses inner (number + 1) (with_slots stream c) cs env value next

-- An end is a step, where what it comes to is what the step makes of the tuples, finished, with its
-- fault marked by clause and tuple.
abbrev pub IsEnd : {B C K : Type 0} → EndValue C → (ℕ → TupleStage B K)
    → (List Slot → B → OrFault C)
    → Type 0
IsEnd value last_step finish = (number : ℕ) (stream : List Slot) (tuples : List Tuple)
    → value number stream tuples ≡ stage marked (finish stream) (last_step number) tuples

-- a clause takes in so many tuples
abbrev pub TakesSoMany : OrFault (List Tuple) → ℕ → Type 0
TakesSoMany (Ok tuples) n = n ≡ length tuples
TakesSoMany (Err fault) n = ⊥
