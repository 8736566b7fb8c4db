-- Pieces: what is told of a piece at a limit, and what is told of pieces one behind the other.
use Rattle.std.specs.Prelude.{ℕ, ◌+◌, ◌==◌, nat_lt, nat_le, if◌then◌else◌, List, [], ◌∷◌, ◌++◌, Option, Some, None, Result, Ok, Err}
use Rattle.fault_merge.specs.declared.done.Done.{Done}
use Rattle.stage_laws.specs.Runs.{Met}
use Rattle.stage_laws.specs.Stages.{Stage}

-- ---- a piece at a limit

-- all that the end of the stage takes in, the fault that is met first, or neither
pub data Outcome (B K F : Type 0) : Type 0 where
  whole : B → Outcome B K F
  met : Met K F → Outcome B K F
  clean : Outcome B K F

-- What the steps below a limit tell, by what all steps make of a list. `full` is one past the last
-- step: at this limit all steps are run.
abbrev pub told_below : {B K F : Type 0} → (full limit : ℕ) → Result B (Met K F)
    → Outcome B K F
told_below full limit (Ok ys) = if limit == full then whole ys else clean
told_below full limit (Err e) = if nat_lt e.step limit then met e else clean

-- an outcome, and how many tuples the step of each number took in
pub record Counted (B K F : Type 0) : Type 0 where
  pub outcome : Outcome B K F
  pub into : ℕ → ℕ

-- what the steps of a stage below a limit tell of a list
abbrev pub carry : {A B K F : Type 0} → (full limit : ℕ) → Stage A B K F → List A → Counted B K F
carry full limit s xs = record {
  outcome = told_below full limit (s.run xs);
  into = λ c. if nat_le c limit then s.into c xs else 0;
}

-- ---- pieces that ran

-- a piece that ran at a limit, and what was told of it
abbrev pub PieceDone : (B K F : Type 0) → Type 0
PieceDone B K F = Done (Counted B K F)

-- the step that an outcome tells, where it is a fault
abbrev pub fault_step : {B K F : Type 0} → Outcome B K F → Option ℕ
fault_step (whole ys) = None
fault_step (met e) = Some e.step
fault_step clean = None

abbrev pub step_told : {B K F : Type 0} → Counted B K F → Option ℕ
step_told out = fault_step out.outcome

-- the list that pieces are cut from
abbrev pub concat : {A : Type 0} → List (List A) → List A
concat [] = []
concat (xs ∷ pieces) = xs ++ concat pieces

-- ---- one list behind another

-- the fault at a tuple before which so many tuples more stand, by the step that it leaves
abbrev pub further : {K F : Type 0} → (ℕ → ℕ) → Met K F → Met K F
further counts e = record e { tuple = counts e.step + e.tuple }

-- what is made of a list before which so many tuples more stand, by the step that takes them in
abbrev pub moved : {B K F : Type 0} → (ℕ → ℕ) → Result B (Met K F) → Result B (Met K F)
moved counts (Ok ys) = Ok ys
moved counts (Err e) = Err (further counts e)

-- of two faults the one in the earlier step, and in one step the first
abbrev pub earlier : {K F : Type 0} → Met K F → Met K F → Met K F
earlier d e = if nat_lt e.step d.step then e else d

-- of two lists one behind the other, of which the first has this fault
abbrev pub first_fault : {B K F : Type 0} → Met K F → Result B (Met K F) → Met K F
first_fault d (Ok ys) = d
first_fault d (Err e) = earlier d e

-- what an end makes of a list and of what comes behind it
abbrev pub Follow : (B K F : Type 0) → Type 0
Follow B K F = B → Result B (Met K F) → Result B (Met K F)

-- what steps make of one list behind another, by what they make of each
abbrev pub behind : {B K F : Type 0} → Follow B K F → Result B (Met K F)
    → Result B (Met K F) → Result B (Met K F)
behind follow (Ok xs) r = follow xs r
behind follow (Err d) r = Err (first_fault d r)

-- ---- what is known of pieces

-- what the steps make of them all; or only that no step below a limit faults
pub data Known (B K F : Type 0) : Type 0 where
  known : Result B (Met K F) → Known B K F
  clear : ℕ → Known B K F

-- and how many tuples each step took in
pub record SoFar (B K F : Type 0) : Type 0 where
  pub what : Known B K F
  pub into : ℕ → ℕ

-- what an outcome at a limit tells
abbrev pub by_outcome : {B K F : Type 0} → ℕ → Outcome B K F → Known B K F
by_outcome limit (whole ys) = known (Ok ys)
by_outcome limit (met e) = known (Err e)
by_outcome limit clean = clear limit

-- what is told of a piece
abbrev pub of_piece : {B K F : Type 0} → PieceDone B K F → SoFar B K F
of_piece d = record { what = by_outcome d.limit d.out.outcome; into = d.out.into }

-- what is known of no piece at all, where this is kept of nothing
abbrev pub nothing_yet : {B K F : Type 0} → B → SoFar B K F
nothing_yet empty = record { what = known (Ok empty); into = λ c. 0 }

-- a fault of a piece, where those before it have none below a limit
abbrev pub fault_if_below : {B K F : Type 0} → ℕ → Result B (Met K F) → Known B K F
fault_if_below limit (Ok ys) = clear limit
fault_if_below limit (Err e) = if nat_lt e.step limit then known (Err e) else clear limit

-- what is known of pieces, and behind them of more
abbrev pub known_behind : {B K F : Type 0} → Follow B K F → Known B K F → Known B K F → Known B K F
known_behind follow (known q) (known r) = known (behind follow q r)
known_behind follow (known (Ok xs)) (clear m) = clear m
known_behind follow (known (Err d)) (clear m) =
    if nat_le d.step m then known (Err d) else clear m
known_behind follow (clear l) (known r) = fault_if_below l r
known_behind follow (clear l) (clear m) = clear (if nat_le l m then l else m)

-- what is known of pieces before which so many tuples more stand
abbrev pub moved_known : {B K F : Type 0} → (ℕ → ℕ) → Known B K F → Known B K F
moved_known counts (known r) = known (moved counts r)
moved_known counts (clear l) = clear l

-- what is known of pieces and of one more
abbrev pub with_next : {B K F : Type 0} → Follow B K F → SoFar B K F → SoFar B K F → SoFar B K F
with_next follow g h = record {
  what = known_behind follow g.what (moved_known g.into h.what);
  into = λ c. g.into c + h.into c;
}

-- what the outcomes of pieces tell together, behind what is known of those before them
abbrev pub gathered : {B K F : Type 0} → Follow B K F → SoFar B K F → List (PieceDone B K F)
    → SoFar B K F
gathered follow g [] = g
gathered follow g (d ∷ ds) = gathered follow (with_next follow g (of_piece d)) ds

-- ---- step by step

-- a step, if it is below a limit, and what those behind it tell of the list that it gives
abbrev pub step_below : {M B K F : Type 0} → (limit number : ℕ) → Result (List M) (Met K F)
    → (List M → Outcome B K F) → Outcome B K F
step_below limit number (Ok ys) rest = if nat_lt number limit then rest ys else clean
step_below limit number (Err e) rest = if nat_lt number limit then met e else clean
