-- What the outcomes of a stage in the code stand for.
use Rattle.std.specs.Prelude.{◌≡◌, ℕ, ◌<◌, List, [], length}
use Rattle.item_tree.specs.Datum.{Datum}
use Rattle.item_tree.specs.declared.fault.Fault.{Fault}
use Rattle.stage_laws.specs.Pieces as laws
use Rattle.stage_laws.specs.Laws.{IsCarry}
use Rattle.query_meaning.specs.Environment.{Tuple}
use Rattle.stage_laws.specs.Stages.{Stage}
use Rattle.stage_laws.specs.Tuples.{as_told}
use Rattle.clause_eval.specs.Frames.{tuples_of, entries_of}
use Rattle.clause_eval.specs.Carrying as run
use Rattle.clause_eval.specs.Carrying.{so_far}
use Rattle.clause_eval.specs.declared.progress.Progress.{Progress}
use Rattle.piece_outcomes.specs.Came.{Came, Seen}
use Rattle.piece_outcomes.specs.Counting.{taken_by}
use Rattle.piece_outcomes.specs.Outcomes.{OutcomeIs}
use Rattle.piece_outcomes.specs.declared.outcome.Counted.{Counted}
use Rattle.piece_run.specs.Remade.{counted_remade}
use Rattle.piece_run.specs.Phases.{next_outcome}
use Rattle.piece_run.specs.declared.came.CameOut.{CameOut}

-- this came out, where `stands` says what is kept of items
pub record CameIs {I : Type 0} (stands : I → List Datum → Type 0) (w : CameOut I) (came : Came)
    : Type 0 where
  pub tuples : tuples_of w.tuples ≡ came.tuples
  pub keyed : entries_of w.keyed ≡ came.keyed
  pub items : stands w.items came.items

abbrev pub PlainOutcome : Type 0
PlainOutcome = laws.Outcome Came Seen Fault

-- an outcome of the code is that of a stage on a list, at a limit
pub record IsOutcomeOf {A W : Type 0} (stands : W → Came → Type 0) (first last : ℕ)
    (s : Stage A Came Seen Fault) (xs : List A) (limit : ℕ) (out : Counted W) : Type 0 where
  pub plain : PlainOutcome
  pub is : OutcomeIs stands out.outcome plain
  pub carry : IsCarry first last s xs limit (record { outcome = plain; into = taken_by out.into })

-- what `clause_eval` says came out
abbrev pub came_seen : run.Came → Came
came_seen w = record { tuples = w.tuples; keyed = []; items = w.items }

-- what was told of narrow clauses without an end: their tuples
abbrev pub passed : {K : Type 0} → Progress → laws.Counted (List Tuple) K Fault
passed p = counted_remade (λ w. w.tuples) (as_told (so_far p))

-- an outcome of the code is what the last step makes of what was told of those before it; and of
-- that step it is known how many tuples it takes in, where all came through
pub record EndsAs {M W : Type 0} (stands : W → Came → Type 0) (at limit : ℕ)
    (last_step : Stage M Came Seen Fault) (o : laws.Counted (List M) Seen Fault) (out : Counted W)
    : Type 0 where
  pub is : OutcomeIs stands out.outcome (next_outcome at limit last_step o.outcome)
  pub same : (n : ℕ) → n < at → taken_by out.into n ≡ o.into n
  pub here : (ys : List M) → o.outcome ≡ laws.whole ys → taken_by out.into at ≡ length ys
