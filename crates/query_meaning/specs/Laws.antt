-- Laws of the meaning of queries.
use Rattle.std.specs.Prelude.{◌≡◌, ℕ, ◌+◌, ◌≤◌, true, List, ◌∷◌, ◌++◌, length, Some, Ok, Err, IsOk}
use Rattle.item_tree.specs.Datum.{Datum}
use Rattle.item_tree.specs.declared.fault.Fault.{Fault}
use Rattle.item_tree.specs.declared.fault.Spot.{Spot}
use Rattle.outside.specs.World.{World}
use Rattle.seq_types.specs.declared.types.SeqType.{SeqType}
use Rattle.query_tree.specs.declared.bound.Slot.{Slot}
use Rattle.query_tree.specs.declared.bound.Target.{Target}
use Rattle.query_tree.specs.Bound.{BoundTree}
use Rattle.query_tree.specs.Plain.{PlainClauses}
use Rattle.query_meaning.specs.Library.{Library}
use Rattle.query_meaning.specs.Outcome.{OrFault, Outcome, joined, each_from}
use Rattle.query_meaning.specs.Environment.{Tuple, Environment, Inner}
use Rattle.query_meaning.specs.Calls.{Program}
use Rattle.query_meaning.specs.Flwors.{flwor_from}
use Rattle.query_meaning.specs.Meaning.{eval}
use Rattle.query_meaning.specs.Sources.{FindsTheSame}
use Rattle.query_meaning.specs.Pieces.{are_narrow, taken_in, clause_left, FaultsFrom, fault_behind}
use Rattle.query_meaning.specs.Inputs.{InputsReadAs}
use Rattle.query_meaning.specs.inside.Computed.{inputs_of}

-- what is computed is what inputs read as, and nothing else is
pub record InputsReadAsOne : Type 0 where
  pub read : (world : World) (names : List (List ℕ))
      → InputsReadAs world names (inputs_of world names)
  pub one : (world : World) (names : List (List ℕ)) (library : Library)
      → InputsReadAs world names library → library ≡ inputs_of world names

-- the elements before this one give something, and this one faults
pub record FaultsFirst {A B : Type 0} (f : ℕ → A → OrFault (List B)) (n : ℕ) (xs : List A)
    (fault : Fault) : Type 0 where
  pub before : List A
  pub at : A
  pub behind : List A
  pub parted : xs ≡ before ++ at ∷ behind
  pub given : IsOk (each_from f n before)
  pub faults : f (n + length before) at ≡ Err fault

-- What each of some lists gives, where the lists stand one behind another: what those of the first
-- give, and then what those of the second give, whose positions are counted on. The first fault of
-- all is raised, and it is that of the first that faults.
pub record EachInOrder (A B : Type 0) : Type 0 where
  pub behind : (f : ℕ → A → OrFault (List B)) (n : ℕ) (xs ys : List A)
      → each_from f n (xs ++ ys) ≡ joined (each_from f n xs) (each_from f (n + length xs) ys)
  pub first : (f : ℕ → A → OrFault (List B)) (n : ℕ) (xs : List A) (fault : Fault)
      → each_from f n xs ≡ Err fault → FaultsFirst f n xs fault

-- of clauses, and of `return`
abbrev pub ClausesInOrder : Type 0
ClausesInOrder = EachInOrder Tuple Tuple × EachInOrder Tuple Datum

-- What comes of one list of tuples behind another, by what comes of each of them. Of two faults the
-- one in the earlier clause is raised, and of two in one clause that of the first list. A fault of
-- the second list names a tuple by its place behind those that the clause takes in of the first.
pub record FallsIntoPieces (number : ℕ) (gives : List Tuple → Outcome)
    (takes_in : ℕ → List Tuple → OrFault (List Tuple)) : Type 0 where
  -- a fault names the clause and the tuple at which it arose
  pub named : (xs : List Tuple) (fault : Fault) → gives xs ≡ Err fault
      → (spot : Spot) × (fault.spot ≡ Some spot) × (number ≤ spot.clause)
  pub items : (xs ys : List Tuple) (a b : List Datum) → gives xs ≡ Ok a → gives ys ≡ Ok b
      → gives (xs ++ ys) ≡ Ok (a ++ b)
  pub first_faults : (xs ys : List Tuple) (fault : Fault) → gives xs ≡ Err fault
      → FaultsFrom (clause_left fault) (gives ys) → gives (xs ++ ys) ≡ Err fault
  pub second_faults : (xs ys : List Tuple) (fault : Fault) → gives ys ≡ Err fault
      → FaultsFrom (clause_left fault + 1) (gives xs)
      → (before : List Tuple) × (takes_in (clause_left fault) xs ≡ Ok before)
      × (gives (xs ++ ys) ≡ Err (fault_behind (length before) fault))

-- A FLWOR may be evaluated on pieces of its tuples, if it neither groups nor orders nor counts.
abbrev pub FlworsFallIntoPieces : Type 0
FlworsFallIntoPieces = (inner : Inner) (number : ℕ) (stream : List Slot)
    (clauses : PlainClauses Slot Target SeqType) (result : BoundTree) (env : Environment)
    → are_narrow clauses ≡ true
    → FallsIntoPieces number (flwor_from inner number stream clauses result env)
    (taken_in inner number stream clauses env)

-- What an expression comes to depends on what it finds in its environment, and on nothing else
-- there: on the variables that it reads, the item of `$$`, and at a call of a declared function all
-- declared variables. What the other slots hold makes no difference.
abbrev pub EvalFindsSources : Type 0
EvalFindsSources = (program : Program) (depth : ℕ) (t : BoundTree) (env other : Environment)
    → FindsTheSame t env other → eval program depth t env ≡ eval program depth t other
