-- Tuples that wait to go on, the next one first.
use Rattle.std.specs.Prelude.{◌≡◌, ℕ, suc, ◌+◌, ◌<◌, ◌≤◌, length, map, drop, reverse, List, [], ◌∷◌, ◌++◌, Option, Ok, Err}
use Rattle.seq_types.specs.declared.types.SeqType.{SeqType}
use Rattle.query_tree.specs.Bound.{BoundTree}
use Rattle.query_tree.specs.BoundViews.{bound_clauses}
use Rattle.query_tree.specs.declared.bound.Slot.{Slot}
use Rattle.query_tree.specs.declared.bound.Target.{Target}
use Rattle.query_tree.specs.declared.clause.Clause.{Clause}
use Rattle.query_tree.specs.Plain as p
use Rattle.query_tree.specs.Plain.{PlainClauses}
use Rattle.query_meaning.specs.Outcome.{OrFault}
use Rattle.query_meaning.specs.Environment.{Tuple, Environment, Inner}
use Rattle.clause_eval.specs.Carrying.{Carries}
use Rattle.clause_eval.specs.Frames.{frame_tuple, frame_tuples}
use Rattle.clause_eval.specs.OneByOne.{tuples_at}
use Rattle.clause_eval.specs.declared.progress.Given.{Given}
use Rattle.clause_eval.specs.declared.progress.Given.TheVariants as given
use Rattle.clause_eval.specs.declared.progress.Progress.{Progress}
use Rattle.clause_eval.specs.declared.waiting.Waiting.{Waiting}

-- a tuple that is through so many of the clauses
abbrev pub Wait : Type 0
Wait = ℕ × Tuple

abbrev pub waits_at : ℕ → List Tuple → List Wait
waits_at passed ts = map (λ t. (passed, t)) ts

-- of several the last one goes on first
abbrev pub left_tuples : Given → List Tuple
left_tuples (given.One f) = frame_tuple f ∷ []
left_tuples (given.Many fs) = frame_tuples (reverse fs.items)

abbrev pub wait_of : Waiting → List Wait
wait_of w = waits_at w.passed (left_tuples w.given)

-- and so does the last one of a list of them
unfoldable pub waits_of : List Waiting → List Wait
waits_of [] = []
waits_of (w ∷ ws) = waits_of ws ++ wait_of w

-- none is through more clauses than there are
abbrev pub AllWithin : ℕ → List Wait → Type 0
AllWithin count [] = Unit {0}
AllWithin count (w ∷ ws) = (w.0 ≤ count) × AllWithin count ws

-- ---- how many steps are left

abbrev pub sum_of : (Tuple → ℕ) → List Tuple → ℕ
sum_of steps [] = 0
sum_of steps (t ∷ ts) = steps t + sum_of steps ts

abbrev pub given_steps : (Tuple → ℕ) → OrFault (List Tuple) → ℕ
given_steps steps (Ok ts) = sum_of steps ts
given_steps steps (Err fault) = 0

-- the steps of a tuple through these clauses, and of all that it gives
abbrev pub steps_through : Inner → PlainClauses Slot Target SeqType → Environment → Tuple → ℕ
steps_through inner p.no_clauses env t = 1
steps_through inner (p.more_clauses c cs) env t =
    suc (given_steps (steps_through inner cs env) (tuples_at inner c env 0 t))

abbrev pub steps_left : Inner → List (Clause Slot Target SeqType) → Environment → List Wait → ℕ
steps_left inner cs env [] = 0
steps_left inner cs env (w ∷ ws) =
    steps_through inner (bound_clauses (drop w.0 cs)) env w.1 + steps_left inner cs env ws

-- ---- what waits goes on

-- each of these is carried through the clauses that are left to it, one after the other
abbrev pub Goes : Inner → Environment → ℕ → List (Clause Slot Target SeqType) → Option BoundTree
    → List Wait → Progress → Progress → Type 0
Goes inner env number cs body [] p q = p ≡ q
Goes inner env number cs body (w ∷ ws) p q = (m : Progress)
    × Carries inner env (number + w.0) (drop w.0 cs) body (w.1 ∷ []) p m
    × Goes inner env number cs body ws m q

-- one step of the next one, which gives those that wait then
pub record Advanced (inner : Inner) (env : Environment) (number : ℕ)
    (cs : List (Clause Slot Target SeqType)) (body : Option BoundTree) (next : Wait)
    (others new : List Wait) (p q : Progress) : Type 0 where
  pub first : q.into.first ≡ p.into.first
  pub fits : length q.into.taken.items ≡ length p.into.taken.items
  pub within : next.0 ≤ length cs → AllWithin (length cs) others → AllWithin (length cs) new
  pub fewer : steps_left inner cs env new < steps_left inner cs env (next ∷ others)
  pub goes : (r : Progress) → Goes inner env number cs body new q r
      → Goes inner env number cs body (next ∷ others) p r

-- what is left: each step counts twice, and each list of those that wait once
abbrev pub size_left : Inner → List (Clause Slot Target SeqType) → Environment → List Wait → ℕ → ℕ
size_left inner cs env ws lists =
    steps_left inner cs env ws + steps_left inner cs env ws + lists

-- the next one takes a step, or a list in which none is left goes
pub record Turned (inner : Inner) (env : Environment) (number : ℕ)
    (cs : List (Clause Slot Target SeqType)) (body : Option BoundTree) (ws : List Wait)
    (lists : ℕ) (new : List Wait) (new_lists : ℕ) (p q : Progress) : Type 0 where
  pub first : q.into.first ≡ p.into.first
  pub fits : length q.into.taken.items ≡ length p.into.taken.items
  pub within : AllWithin (length cs) ws → AllWithin (length cs) new
  pub fewer : size_left inner cs env new new_lists < size_left inner cs env ws lists
  pub goes : (r : Progress) → Goes inner env number cs body new q r
      → Goes inner env number cs body ws p r

-- where these are left of a tuple, it is carried through all clauses once they are
pub record Left (inner : Inner) (env : Environment) (number : ℕ)
    (cs : List (Clause Slot Target SeqType)) (body : Option BoundTree) (t : Tuple)
    (ws : List Wait) (p now : Progress) : Type 0 where
  pub first : now.into.first ≡ p.into.first
  pub fits : length now.into.taken.items ≡ length p.into.taken.items
  pub within : AllWithin (length cs) ws
  pub goes : (q : Progress) → Goes inner env number cs body ws now q
      → Carries inner env number cs body (t ∷ []) p q
