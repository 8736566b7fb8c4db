-- Tuples with the keys of `order by`, as the code finds them.
use Rattle.std.specs.Prelude.{◌≡◌, ℕ, ◌<◌, List, length, Result, Ok, Err}
use Rattle.item_tree.specs.declared.fault.Fault.{Fault}
use Rattle.tuple_rows.specs.Keys.{KeyList, Keyed}
use Rattle.order_runs.specs.Seen.{Seen, SeenStandsFor}
use Rattle.stage_laws.specs.Runs.{Met}
use Rattle.stage_laws.specs.Stages.{Stage}
use Rattle.stage_laws.specs.Pieces as laws
use Rattle.stage_laws.specs.Ends.{keys_of}
use Rattle.stage_laws.specs.Laws.{IsCarry}
use Rattle.clause_eval.specs.Frames.{keyed_list}
use Rattle.piece_outcomes.specs.Came.{Came}
use Rattle.piece_outcomes.specs.Counting.{taken_by}
use Rattle.piece_outcomes.specs.declared.met.MetFault.{MetFault}
use Rattle.piece_outcomes.specs.declared.outcome.OrderOutcome.{OrderOutcome}
use Rattle.piece_outcomes.specs.Orders as orders
use Rattle.piece_outcomes.specs.Orders.{MetIs}
use Rattle.piece_outcomes.specs.declared.outcome.OrderCounted.{OrderCounted}
use Rattle.piece_run.specs.Phases.{next_outcome}
use Rattle.piece_run.specs.declared.ordering.OrderedTuples.{OrderedTuples}
use Rattle.piece_run.specs.declared.ordering.Ordering.{Ordering}
use Rattle.piece_run.specs.declared.ordering.Ordering.TheVariants as found

abbrev pub PlainOrder : Type 0
PlainOrder = laws.Outcome (List Keyed) KeyList Fault

-- an outcome of the code is this one
abbrev pub OrderOutcomeIs : {W : Type 0} → (W → Came → Type 0) → OrderOutcome W → PlainOrder
    → Type 0
OrderOutcomeIs stands out o = orders.OutcomeIs stands out o

-- an outcome of the code is that of a stage with an order on a list, at a limit
pub record IsOrderOutcomeOf {A W : Type 0} (stands : W → Came → Type 0) (first last : ℕ)
    (s : Stage A (List Keyed) KeyList Fault) (xs : List A) (limit : ℕ) (out : OrderCounted W)
    : Type 0 where
  pub plain : PlainOrder
  pub is : OrderOutcomeIs stands out.outcome plain
  pub carry : IsCarry first last s xs limit (record { outcome = plain; into = taken_by out.into })

-- an outcome of the code is what the order makes of what was told of the steps before it
pub record OrderEndsAs {M W : Type 0} (stands : W → Came → Type 0) (at limit : ℕ)
    (last_step : Stage M (List Keyed) KeyList Fault) (o : laws.Counted (List M) KeyList Fault)
    (out : OrderCounted W) : Type 0 where
  pub is : OrderOutcomeIs stands out.outcome (next_outcome at limit last_step o.outcome)
  pub same : (n : ℕ) → n < at → taken_by out.into n ≡ o.into n
  pub here : (ys : List M) → o.outcome ≡ laws.whole ys → taken_by out.into at ≡ length ys

-- ---- tuple by tuple

-- the keys of all these tuples were seen, in so many columns
pub record IsOrdered (columns : ℕ) (s : OrderedTuples) : Type 0 where
  pub seen : SeenStandsFor s.seen (keys_of (keyed_list s.entries.items))
  pub count : length s.seen.columns ≡ columns

-- a fault, and the classes of the keys up to there
pub record FaultIs (r : Result (List Keyed) (Met KeyList Fault)) (m : MetFault) (seen : Seen)
    : Type 0 where
  pub fault : Met KeyList Fault
  pub is : r ≡ Err fault
  pub met : MetIs m fault
  pub keys : SeenStandsFor seen fault.seen

-- all tuples with their keys, or the first fault
abbrev pub OrderingIs : Result (List Keyed) (Met KeyList Fault) → Ordering → Type 0
OrderingIs r (found.All s) = r ≡ Ok (keyed_list s.entries.items)
OrderingIs r (found.Met m seen) = FaultIs r m seen

abbrev pub AllOrderedBy : ℕ → Ordering → Type 0
AllOrderedBy columns (found.All s) = IsOrdered columns s
AllOrderedBy columns (found.Met m seen) = length seen.columns ≡ columns
