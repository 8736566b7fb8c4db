-- Laws of stages over pieces: which stages fall into pieces, and what the outcomes of pieces tell.
use Rattle.std.specs.Prelude.{◌≡◌, ℕ, ◌+◌, ◌≤◌, ◌<◌, List, [], ◌∷◌, ◌++◌, length, Option, Some, Result, Ok, Err}
use Rattle.fault_merge.specs.Enough.{AllEnough}
use Rattle.stage_laws.specs.Runs.{Met, each_from, each_read}
use Rattle.stage_laws.specs.Stages.{Stage, ended, followed, narrow, driver, ordered, kept_as}
use Rattle.stage_laws.specs.Pieces.{told_below, step_below, carry, Counted, PieceDone, step_told, concat, moved, Follow, behind, Known, known, clear, SoFar, by_outcome, of_piece, nothing_yet, with_next, gathered}
use Rattle.stage_laws.specs.Ends.{appended, merged, Merges, in_order, ClashesStay, stage, result_of, numbered_from}

-- no step below this one faults
abbrev pub ClearBelow : {B K F : Type 0} → ℕ → Result B (Met K F) → Type 0
ClearBelow c (Ok ys) = Unit {0}
ClearBelow c (Err e) = c ≤ e.step

-- What an end may make of a list and of what comes behind it: it leaves the faults of steps below
-- the last one as they are, and keeps the step of each; a fault that it finds itself is met in the
-- last step.
pub record Follows {B K F : Type 0} (last : ℕ) (follow : Follow B K F) : Type 0 where
  pub leaves : (xs : B) (e : Met K F) → e.step < last → follow xs (Err e) ≡ Err e
  pub faults : (xs : B) (e : Met K F)
      → (d : Met K F) × (follow xs (Err e) ≡ Err d) × (d.step ≡ e.step)
  pub clash : (xs ys : B) (e : Met K F) → follow xs (Ok ys) ≡ Err e → e.step ≡ last

-- A stage with steps from `first` to `last` falls into pieces: what it makes of one list behind
-- another is said by what it makes of each, where `follow` is what its end makes of the two. It
-- makes `empty` of no tuple.
pub record Falls {A B K F : Type 0} (first last : ℕ) (empty : B) (follow : Follow B K F)
    (s : Stage A B K F) : Type 0 where
  pub none : s.run [] ≡ Ok empty
  pub none_in : (c : ℕ) → s.into c [] ≡ 0
  pub outside : (c : ℕ) (xs : List A) → c < first → s.into c xs ≡ 0
  pub steps : (xs : List A) (e : Met K F) → s.run xs ≡ Err e → (first ≤ e.step) × (e.step ≤ last)
  pub parts : (xs ys : List A)
      → s.run (xs ++ ys) ≡ behind follow (s.run xs) (moved (λ c. s.into c xs) (s.run ys))
  pub counts : (c : ℕ) (xs ys : List A) → ClearBelow c (s.run xs) → ClearBelow c (s.run ys)
      → s.into c (xs ++ ys) ≡ s.into c xs + s.into c ys
  pub before : (xs : B) (e : Met K F) → e.step < first → follow xs (Err e) ≡ Err e
  pub follows : Follows last follow

-- ---- what is known of pieces is so

-- what is known is so of what a stage makes of a list
abbrev pub IsTrueOf : {B K F : Type 0} → ℕ → Known B K F → Result B (Met K F) → Type 0
IsTrueOf last (known r) q = q ≡ r
IsTrueOf last (clear l) q = (l ≤ last) × ClearBelow l q

-- the last step of which it is known how many tuples it takes in
abbrev pub reach : {B K F : Type 0} → ℕ → Known B K F → ℕ
reach last (known (Ok ys)) = last
reach last (known (Err e)) = e.step
reach last (clear l) = l

-- What is known tells of a list: it is so, and the numbers of tuples that the steps from `first` up
-- to its reach took in are right.
pub record Tells {A B K F : Type 0} (first last : ℕ) (s : Stage A B K F) (xs : List A)
    (g : SoFar B K F) : Type 0 where
  pub is : IsTrueOf last g.what (s.run xs)
  pub counts : (c : ℕ) → first ≤ c → c ≤ reach last g.what → g.into c ≡ s.into c xs

-- what is told at a limit is what the steps below it tell, one after the other
abbrev pub TellsStepByStep : {A M B K F : Type 0} → (number last : ℕ)
    → (List A → Result (List M) (Met K F)) → (List A → ℕ) → Stage M B K F → Type 0
TellsStepByStep {A} number last step takes rest = (limit : ℕ) (xs : List A)
    → told_below (last + 1) limit ((followed number step takes rest).run xs)
    ≡ step_below limit number (step xs) (λ ys. told_below (last + 1) limit (rest.run ys))

-- no limit is past the one at which all steps are run
abbrev pub AllWithin : {B K F : Type 0} → ℕ → List (PieceDone B K F) → Type 0
AllWithin full [] = Unit {0}
AllWithin full (d ∷ ds) = (d.limit ≤ full) × AllWithin full ds

-- An outcome is what the steps of a stage below a limit tell of a list. Its numbers of tuples are
-- right for the steps that are not above the limit, the last step, or the step of the fault; what
-- stands for others is not said.
pub record IsCarry {A B K F : Type 0} (first last : ℕ) (s : Stage A B K F) (xs : List A)
    (limit : ℕ) (out : Counted B K F) : Type 0 where
  pub outcome : out.outcome ≡ told_below (last + 1) limit (s.run xs)
  pub into : (c : ℕ) → first ≤ c → c ≤ reach last (by_outcome limit out.outcome)
      → out.into c ≡ s.into c xs

-- each outcome is that of the piece at its place
abbrev pub AllCarry : {A B K F : Type 0} → (first last : ℕ) → Stage A B K F → List (List A)
    → List (PieceDone B K F) → Type 0
AllCarry first last s [] [] = Unit {0}
AllCarry first last s [] (d ∷ ds) = ⊥
AllCarry first last s (xs ∷ pieces) [] = ⊥
AllCarry first last s (xs ∷ pieces) (d ∷ ds) =
    IsCarry first last s xs d.limit d.out × AllCarry first last s pieces ds

-- For a stage that falls into pieces: an outcome tells of its piece; what is known of pieces and
-- what is known of one more tells of all of them; and at limits that are enough all is known.
pub record Gathers {A B K F : Type 0} (first last : ℕ) (empty : B) (follow : Follow B K F)
    (s : Stage A B K F) : Type 0 where
  pub none : Tells first last s [] (nothing_yet empty)
  pub carries : (limit : ℕ) (xs : List A)
      → IsCarry first last s xs limit (carry (last + 1) limit s xs)
  pub piece : (xs : List A) (d : PieceDone B K F) → d.limit ≤ last + 1
      → IsCarry first last s xs d.limit d.out
      → Tells first last s xs (of_piece d)
  pub next : (xs ys : List A) (g h : SoFar B K F) → Tells first last s xs g
      → Tells first last s ys h
      → Tells first last s (xs ++ ys) (with_next follow g h)
  pub all : (pieces : List (List A)) (ds : List (PieceDone B K F)) → AllWithin (last + 1) ds
      → AllCarry first last s pieces ds
      → Tells first last s (concat pieces) (gathered follow (nothing_yet empty) ds)
  pub whole : (pieces : List (List A)) (ds : List (PieceDone B K F)) → AllWithin (last + 1) ds
      → AllCarry first last s pieces ds → AllEnough step_told (last + 1) ds
      → (gathered follow (nothing_yet empty) ds).what ≡ known (s.run (concat pieces))

-- ---- the laws, for lists and faults of any kind

-- Which stages fall into pieces: one without steps; an order step, where keys that clash still
-- clash behind more keys; a narrow step or one of a driver, where the stage behind it does; and one
-- of which something else is kept that is put together from what is kept of parts.
pub record StagesFallIntoPieces (A M B W K F : Type 0) : Type 0 where
  pub ended : (first last : ℕ) → Falls {A = A} {K = K} {F = F} first last [] appended ended
  pub ordered : (number : ℕ) (keys : A → Result K F) (clash : List K → K → Option F)
      → ClashesStay clash
      → Falls number number [] (in_order number clash) (ordered number keys clash)
  pub narrow :
      (number first last : ℕ) (empty : W) (follow : Follow W K F) (f : A → Result (List M) F)
      (rest : Stage M W K F) → Falls first last empty follow rest → number < first → number ≤ last
      → Falls number last empty follow (narrow number f rest)
  pub driver :
      (number first last : ℕ) (empty : W) (follow : Follow W K F) (f : A → Result (List M) F)
      (rest : Stage M W K F) → Falls first last empty follow rest → number < first → number ≤ last
      → Falls number last empty follow (driver number f rest)
  pub kept : (first last : ℕ) (view : List B → W) (merge : W → W → W) (s : Stage A (List B) K F)
      → Merges view merge → Falls first last [] appended s
      → Falls first last (view []) (merged merge) (kept_as view s)

-- what falls into pieces is gathered from the outcomes of the pieces
abbrev pub OutcomesTell : (A W K F : Type 0) → Type 0
OutcomesTell A W K F = (first last : ℕ) (empty : W) (follow : Follow W K F) (s : Stage A W K F)
    → Falls first last empty follow s → Gathers first last empty follow s

-- so the result on pieces is that of the stage on the list that they are pieces of
abbrev pub ResultsAreOne : (A W C K F : Type 0) → Type 0
ResultsAreOne A W C K F = (first last : ℕ) (empty : W) (follow : Follow W K F) (s : Stage A W K F)
    (mark : Met K F → F) (finish : W → Result C F) (pieces : List (List A))
    (ds : List (PieceDone W K F)) → Falls first last empty follow s → AllWithin (last + 1) ds
    → AllCarry first last s pieces ds → AllEnough step_told (last + 1) ds
    → result_of mark finish (gathered follow (nothing_yet empty) ds).what
    ≡ Some (stage mark finish s (concat pieces))

-- at each limit the steps below it tell, for narrow steps and those of drivers
abbrev pub StepsBelowTell : (A M W K F : Type 0) → Type 0
StepsBelowTell A M W K F = (number first last : ℕ) (empty : W) (follow : Follow W K F)
    (f : A → Result (List M) F) (rest : Stage M W K F) → Falls first last empty follow rest
    → number < first → number ≤ last
    → TellsStepByStep number last (each_from number f 1) length rest
    × TellsStepByStep number last (each_read number f) (λ xs. 0) rest

-- `count` goes on where the list before it ends
abbrev pub NumbersGoOn : (A B : Type 0) → Type 0
NumbersGoOn A B = (bind : ℕ → A → B) (n : ℕ) (xs ys : List A)
    → numbered_from bind n (xs ++ ys)
    ≡ numbered_from bind n xs ++ numbered_from bind (n + length xs) ys
