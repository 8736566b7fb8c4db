-- Clauses of a FLWOR tuple by tuple: each tuple goes through all of them before the next one does.
use Rattle.std.specs.Prelude.{◌≡◌, ℕ, ◌+◌, ◌==◌, ◌<◌, nat_le, Bool, true, false, if◌then◌else◌, length, List, [], ◌∷◌, ◌++◌, Option, Some, None, Ok, Err}
use Rattle.std.specs.Borrow.{Bor}
use Rattle.item_tree.specs.Datum.{Datum}
use Rattle.item_tree.specs.declared.fault.Fault.{Fault}
use Rattle.seq_types.specs.declared.types.SeqType.{SeqType}
use Rattle.query_tree.specs.BoundViews.{bound_tree, bound_clauses}
use Rattle.query_tree.specs.Bound.{BoundTree}
use Rattle.query_tree.specs.declared.bound.Slot.{Slot}
use Rattle.query_tree.specs.declared.bound.Target.{Target}
use Rattle.query_tree.specs.declared.clause.Clause.{Clause}
use Rattle.query_tree.specs.declared.expr.Expr.{Expr}
use Rattle.query_tree.specs.Plain as p
use Rattle.query_tree.specs.Plain.{PlainClauses}
use Rattle.query_meaning.specs.Outcome.{OrFault}
use Rattle.query_meaning.specs.Environment.{Tuple, Environment, Inner, in_tuple}
use Rattle.query_meaning.specs.inside.Views.{items_of}
use Rattle.stage_laws.specs.Stages.{Stage, narrow}
use Rattle.stage_laws.specs.Pieces.{Follow, Known, known, clear, SoFar}
use Rattle.stage_laws.specs.Ends.{merged}
use Rattle.stage_laws.specs.Laws.{Tells}
use Rattle.stage_laws.specs.Tuples.{Began}
use Rattle.piece_outcomes.specs.Counting.{met_of, taken_by}
use Rattle.clause_eval.specs.Frames.{frame_tuple, tuples_of}
use Rattle.clause_eval.specs.OneByOne.{tuples_at}
use Rattle.clause_eval.specs.declared.progress.Given.{Given}
use Rattle.clause_eval.specs.declared.progress.Given.TheVariants as given
use Rattle.clause_eval.specs.declared.progress.Told.{Told}
use Rattle.clause_eval.specs.declared.progress.Told.TheVariants as what
use Rattle.clause_eval.specs.declared.progress.Progress.{Progress}

-- what comes out behind the last step: tuples, or the items of `return`
pub record Came : Type 0 where
  pub tuples : List Tuple
  pub items : List Datum

abbrev pub nothing_came : Came
nothing_came = record { tuples = []; items = [] }

abbrev pub came_behind : Came → Came → Came
came_behind a b = record { tuples = a.tuples ++ b.tuples; items = a.items ++ b.items }

-- no step but an order sees keys
abbrev pub Seen : Type 0
Seen = Unit {0}

abbrev pub follow : Follow Came Seen Fault
follow = merged came_behind

abbrev pub StageFor : Type 0 → Type 0
StageFor A = Stage A Came Seen Fault

abbrev pub tuples_out : StageFor Tuple
tuples_out = record { run = λ ts. Ok (record { tuples = ts; items = [] }); into = λ c ts. 0 }

abbrev pub items_out : StageFor Datum
items_out = record { run = λ ds. Ok (record { tuples = []; items = ds }); into = λ c ds. 0 }

-- what `return` gives for a tuple
abbrev pub returned : Inner → BoundTree → Environment → Tuple → OrFault (List Datum)
returned inner body env tuple = inner body (in_tuple env tuple)

abbrev pub last_stage : Inner → ℕ → Option BoundTree → Environment → StageFor Tuple
last_stage inner number None env = tuples_out
last_stage inner number (Some body) env = narrow number (returned inner body env) items_out

-- the clauses from this number on, and `return` if it is there
abbrev pub stage_from : Inner → ℕ → PlainClauses Slot Target SeqType → Option BoundTree
    → Environment → StageFor Tuple
stage_from inner number p.no_clauses body env = last_stage inner number body env
stage_from inner number (p.more_clauses c cs) body env =
    narrow number (tuples_at inner c env 0) (stage_from inner (number + 1) cs body env)

abbrev pub steps_of : Option BoundTree → ℕ
steps_of None = 0
steps_of (Some body) = 1

-- ---- what the code holds

abbrev pub body_tree : Option (Bor (Expr Slot Target SeqType)) → Option BoundTree
body_tree None = None
body_tree (Some e) = Some (bound_tree e.now)

abbrev pub given_tuples : Given → List Tuple
given_tuples (given.One f) = frame_tuple f ∷ []
given_tuples (given.Many fs) = tuples_of fs

abbrev pub known_of : Told → Known Came Seen Fault
known_of (what.Whole tuples items) =
    known (Ok (record { tuples = tuples_of tuples; items = items_of items }))
known_of (what.Met m) = known (Err (met_of m))
known_of (what.Clear l) = clear l

-- how many tuples the clause of this number took in
abbrev pub counted : Progress → ℕ → ℕ
counted p c = taken_by p.into c

abbrev pub so_far : Progress → SoFar Came Seen Fault
so_far p = record { what = known_of p.what; into = counted p }

-- ---- one more tuple

-- whether the step of this number is not run any more
abbrev pub is_held : ℕ → Known Came Seen Fault → Bool
is_held number (known (Ok w)) = false
is_held number (known (Err e)) = nat_le e.step number
is_held number (clear l) = nat_le l number

-- the step of this number takes in one more
abbrev pub TakesIn : ℕ → Progress → Progress → Type 0
TakesIn number p q = (c : ℕ) → counted q c ≡ (if c == number then counted p c + 1 else counted p c)

abbrev pub Fell : ℕ → Fault → Progress → Type 0
Fell number fault q = known_of q.what
    ≡ known (Err (record { step = number; tuple = counted q number; fault = fault; seen = [] }))

-- what goes on to the next step, where a step gives this for a tuple
abbrev pub GoesDown : ℕ → OrFault (List Tuple) → Progress → Progress → Option Given → Type 0
GoesDown number (Err fault) p q None = Fell number fault q
GoesDown number (Err fault) p q (Some g) = ⊥
GoesDown number (Ok ts) p q None = ⊥
GoesDown number (Ok ts) p q (Some g) = (ts ≡ given_tuples g) × (known_of q.what ≡ known_of p.what)

abbrev pub GoesOrStops : Bool → ℕ → OrFault (List Tuple) → Progress → Progress → Option Given
    → Type 0
GoesOrStops true number gives p q None = known_of q.what ≡ known_of p.what
GoesOrStops true number gives p q (Some g) = ⊥
GoesOrStops false number gives p q r = GoesDown number gives p q r

pub record Stepped (number : ℕ) (gives : OrFault (List Tuple)) (p q : Progress) (r : Option Given)
    : Type 0 where
  pub first : q.into.first ≡ p.into.first
  pub fits : length q.into.taken.items ≡ length p.into.taken.items
  pub takes : TakesIn number p q
  pub goes : GoesOrStops (is_held number (known_of p.what)) number gives p q r

-- the same at `return`
abbrev pub with_items : List Datum → Known Came Seen Fault → Known Came Seen Fault
with_items ds (known (Ok w)) = known (Ok (record { tuples = w.tuples; items = w.items ++ ds }))
with_items ds (known (Err e)) = known (Err e)
with_items ds (clear l) = clear l

abbrev pub with_tuple : Tuple → Known Came Seen Fault → Known Came Seen Fault
with_tuple t (known (Ok w)) = known (Ok (record { tuples = w.tuples ++ t ∷ []; items = w.items }))
with_tuple t (known (Err e)) = known (Err e)
with_tuple t (clear l) = clear l

abbrev pub Returns : Bool → ℕ → OrFault (List Datum) → Progress → Progress → Type 0
Returns true number gives p q = known_of q.what ≡ known_of p.what
Returns false number (Err fault) p q = Fell number fault q
Returns false number (Ok ds) p q = known_of q.what ≡ with_items ds (known_of p.what)

pub record Returned (number : ℕ) (gives : OrFault (List Datum)) (p q : Progress) : Type 0 where
  pub first : q.into.first ≡ p.into.first
  pub fits : length q.into.taken.items ≡ length p.into.taken.items
  pub takes : TakesIn number p q
  pub goes : Returns (is_held number (known_of p.what)) number gives p q

-- ---- what is known tells of the tuples that came

abbrev pub TellsAt : Inner → Environment → ℕ → List (Clause Slot Target SeqType) → Option BoundTree
    → ℕ → List Tuple → Progress → Type 0
TellsAt inner env number cs body last ts p =
    Tells number last (stage_from inner number (bound_clauses cs) body env) ts (so_far p)

abbrev pub IsLast : ℕ → List (Clause Slot Target SeqType) → Option BoundTree → ℕ → Type 0
IsLast number cs body last = number + length cs + steps_of body ≡ last + 1

-- what was known of other tuples is then known of these too
pub record Carries (inner : Inner) (env : Environment) (number : ℕ)
    (cs : List (Clause Slot Target SeqType)) (body : Option BoundTree) (ts : List Tuple)
    (p q : Progress) : Type 0 where
  pub first : q.into.first ≡ p.into.first
  pub fits : length q.into.taken.items ≡ length p.into.taken.items
  pub before : (c : ℕ) → c < number → counted q c ≡ counted p c
  pub tells : (last : ℕ) → IsLast number cs body last → (xs : List Tuple)
      → TellsAt inner env number cs body last xs p
      → TellsAt inner env number cs body last (xs ++ ts) q
  pub began : (last : ℕ) → IsLast number cs body last → (limit : ℕ)
      → Began last limit (known_of p.what) → Began last limit (known_of q.what)

-- of all tuples these are left
pub record CarriesRest (inner : Inner) (env : Environment) (number : ℕ)
    (cs : List (Clause Slot Target SeqType)) (body : Option BoundTree) (all left : List Tuple)
    (p now : Progress) : Type 0 where
  pub first : now.into.first ≡ p.into.first
  pub fits : length now.into.taken.items ≡ length p.into.taken.items
  pub goes : (q : Progress) → Carries inner env number cs body left now q
      → Carries inner env number cs body all p q
