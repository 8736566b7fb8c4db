-- Faults with the place where they were met, and numbers of tuples that steps took in.
use Rattle.std.specs.Prelude.{◌≡◌, ℕ, ◌+◌, ◌-◌, ◌==◌, nat_lt, if◌then◌else◌, get_or, length, List, [], Option, Some, None}
use Rattle.item_tree.specs.declared.code.Code.TheVariants.{XPTY0004}
use Rattle.item_tree.specs.declared.fault.Fault.{Fault}
use Rattle.item_tree.specs.Faults.{fault_at}
use Rattle.stage_laws.specs.Runs.{Met}
use Rattle.piece_outcomes.specs.declared.met.MetFault.{MetFault}
use Rattle.piece_outcomes.specs.declared.counts.Counts.{Counts}
use Rattle.piece_outcomes.specs.declared.outcome.Outcome.{Outcome}
use Rattle.piece_outcomes.specs.declared.outcome.Outcome.TheVariants as own
use Rattle.piece_outcomes.specs.declared.outcome.Counted.{Counted}
use Rattle.piece_outcomes.specs.declared.outcome.OrderOutcome.{OrderOutcome}
use Rattle.piece_outcomes.specs.declared.outcome.OrderOutcome.TheVariants as order
use Rattle.piece_outcomes.specs.declared.outcome.OrderCounted.{OrderCounted}

-- the fault of a stage, at a step that sees no keys
abbrev pub met_of : {K : Type 0} → MetFault → Met K Fault
met_of m = record { step = m.step; tuple = m.tuple; fault = m.fault; seen = [] }

-- the fault that a fault met in a stage stands for: it names the clause that it left, and the tuple
abbrev pub marked : {K : Type 0} → Met K Fault → Fault
marked e = record (e.fault) { spot = Some (record { clause = e.step; tuple = e.tuple }) }

abbrev pub marked_fault : MetFault → Fault
marked_fault m = record (m.fault) { spot = Some (record { clause = m.step; tuple = m.tuple }) }

-- how many tuples the step of this number took in; none where it is no step of these
abbrev pub taken_by : Counts → ℕ → ℕ
taken_by counts c =
    if nat_lt c counts.first then 0 else get_or counts.taken.items (c - counts.first) 0

-- the step that an outcome tells, where it is a fault
abbrev pub step_of : {W : Type 0} → Outcome W → Option ℕ
step_of (own.Whole w) = None
step_of (own.Met m) = Some m.step
step_of own.Clean = None

abbrev pub told_step : {W : Type 0} → Counted W → Option ℕ
told_step out = step_of out.outcome

-- the same at an order
abbrev pub order_step_of : {W : Type 0} → OrderOutcome W → Option ℕ
order_step_of (order.Whole w seen) = None
order_step_of (order.Met m seen) = Some m.step
order_step_of order.Clean = None

abbrev pub order_told_step : {W : Type 0} → OrderCounted W → Option ℕ
order_told_step out = order_step_of out.outcome

-- ---- as pieces are put together

-- one past the last of these steps
abbrev pub past : Counts → ℕ
past counts = counts.first + length counts.taken.items

-- a step takes in so many more, and the others as many as before
abbrev pub TakesMore : (step more : ℕ) → Counts → Counts → Type 0
TakesMore step more before after =
    (c : ℕ) → taken_by after c
    ≡ (if c == step then taken_by before c + more else taken_by before c)

-- the fault at a tuple before which so many tuples more stand, by the step that it leaves
abbrev pub moved_on : (ℕ → ℕ) → MetFault → MetFault
moved_on counts m = record m { tuple = counts m.step + m.tuple }

-- the fault of the keys of the tuple of this number, which clash in this column
abbrev pub clash_met : (step : ℕ) → (places : List ℕ) → (tuple column : ℕ) → MetFault
clash_met step places tuple column = record {
  step = step;
  tuple = tuple;
  fault = fault_at XPTY0004 (get_or places column 0);
}
