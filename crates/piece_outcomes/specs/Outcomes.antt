-- Outcomes of pieces, and the plain ones that they stand for. `stands` says what is kept of which
-- lists.
use Rattle.std.specs.Prelude.{◌≡◌, ℕ, List, [], ◌∷◌, Result, Ok, Err}
use Rattle.item_tree.specs.declared.fault.Fault.{Fault}
use Rattle.fault_merge.specs.declared.done.Done.{Done}
use Rattle.stage_laws.specs.Runs.{Met}
use Rattle.stage_laws.specs.Pieces as plain
use Rattle.piece_outcomes.specs.declared.outcome.Outcome.{Outcome}
use Rattle.piece_outcomes.specs.declared.outcome.Outcome.TheVariants as own
use Rattle.piece_outcomes.specs.declared.outcome.Counted.{Counted}
use Rattle.piece_outcomes.specs.declared.outcome.Gathered.{Gathered}
use Rattle.piece_outcomes.specs.declared.outcome.Gathered.TheVariants as given
use Rattle.piece_outcomes.specs.declared.items.Known.{Known}
use Rattle.piece_outcomes.specs.declared.items.Known.TheVariants as what
use Rattle.piece_outcomes.specs.declared.items.SoFar.{SoFar}
use Rattle.piece_outcomes.specs.Came.{Came, Seen}
use Rattle.piece_outcomes.specs.Counting.{met_of, taken_by}

abbrev pub OutcomeIs : {W : Type 0} → (W → Came → Type 0) → Outcome W
    → plain.Outcome Came Seen Fault → Type 0
OutcomeIs stands (own.Whole w) (plain.whole c) = stands w c
OutcomeIs stands (own.Whole w) (plain.met e) = ⊥
OutcomeIs stands (own.Whole w) plain.clean = ⊥
OutcomeIs stands (own.Met m) (plain.whole c) = ⊥
OutcomeIs stands (own.Met m) (plain.met e) = e ≡ met_of m
OutcomeIs stands (own.Met m) plain.clean = ⊥
OutcomeIs stands own.Clean (plain.whole c) = ⊥
OutcomeIs stands own.Clean (plain.met e) = ⊥
OutcomeIs stands own.Clean plain.clean = Unit {0}

-- a piece that ran at the same limit, with the same numbers of tuples
pub record DoneIs {W : Type 0} (stands : W → Came → Type 0) (d : Done (Counted W))
    (p : plain.PieceDone Came Seen Fault) : Type 0 where
  pub limit : p.limit ≡ d.limit
  pub outcome : OutcomeIs stands d.out.outcome p.out.outcome
  pub into : p.out.into ≡ taken_by d.out.into

-- each of these stands for the plain one at its place
abbrev pub AllStand : {A P : Type 0} → (A → P → Type 0) → List A → List P → Type 0
AllStand stands [] [] = Unit {0}
AllStand stands [] (p ∷ ps) = ⊥
AllStand stands (a ∷ xs) [] = ⊥
AllStand stands (a ∷ xs) (p ∷ ps) = stands a p × AllStand stands xs ps

abbrev pub AllDone : {W : Type 0} → (W → Came → Type 0) → List (Done (Counted W))
    → List (plain.PieceDone Came Seen Fault) → Type 0
AllDone stands ds ps = AllStand (DoneIs stands) ds ps

-- ---- what is known

abbrev pub KnownIs : {W : Type 0} → (W → Came → Type 0) → Known W → plain.Known Came Seen Fault
    → Type 0
KnownIs stands (what.Whole w) (plain.known (Ok c)) = stands w c
KnownIs stands (what.Whole w) (plain.known (Err e)) = ⊥
KnownIs stands (what.Whole w) (plain.clear l) = ⊥
KnownIs stands (what.Met m) (plain.known (Ok c)) = ⊥
KnownIs stands (what.Met m) (plain.known (Err e)) = e ≡ met_of m
KnownIs stands (what.Met m) (plain.clear l) = ⊥
KnownIs stands (what.Clear l) (plain.known r) = ⊥
KnownIs stands (what.Clear l) (plain.clear m) = m ≡ l

pub record SoFarIs {W : Type 0} (stands : W → Came → Type 0) (g : SoFar W)
    (h : plain.SoFar Came Seen Fault) : Type 0 where
  pub what : KnownIs stands g.what h.what
  pub into : h.into ≡ taken_by g.into

-- ---- what is gathered

-- all that comes out, or the first fault
abbrev pub ResultIs : {W : Type 0} → (W → Came → Type 0) → Gathered W
    → Result Came (Met Seen Fault) → Type 0
ResultIs stands (given.Whole w) (Ok c) = stands w c
ResultIs stands (given.Whole w) (Err e) = ⊥
ResultIs stands (given.Met m) (Ok c) = ⊥
ResultIs stands (given.Met m) (Err e) = e ≡ met_of m

-- where all is known
abbrev pub GatheredIs : {W : Type 0} → (W → Came → Type 0) → Gathered W
    → plain.Known Came Seen Fault → Type 0
GatheredIs stands g (plain.known r) = ResultIs stands g r
GatheredIs stands g (plain.clear l) = ⊥
