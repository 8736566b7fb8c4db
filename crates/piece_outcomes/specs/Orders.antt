-- Outcomes of pieces at an order step, and the plain ones that they stand for.
use Rattle.std.specs.Prelude.{◌≡◌, ℕ, get_or, length, List, [], ◌∷◌, Option, Some, None, Result, Ok, Err}
use Rattle.item_tree.specs.declared.code.Code.TheVariants.{XPTY0004}
use Rattle.item_tree.specs.declared.fault.Fault.{Fault}
use Rattle.item_tree.specs.Faults.{fault_at}
use Rattle.tuple_rows.specs.Keys.{KeyList, Keyed}
use Rattle.order_runs.specs.Clashes.{clash_column}
use Rattle.order_runs.specs.Seen.{Seen, SeenStandsFor}
use Rattle.fault_merge.specs.declared.done.Done.{Done}
use Rattle.stage_laws.specs.Runs.{Met}
use Rattle.stage_laws.specs.Pieces as plain
use Rattle.stage_laws.specs.Ends.{keys_of}
use Rattle.piece_outcomes.specs.declared.met.MetFault.{MetFault}
use Rattle.piece_outcomes.specs.declared.outcome.OrderOutcome.{OrderOutcome}
use Rattle.piece_outcomes.specs.declared.outcome.OrderOutcome.TheVariants as own
use Rattle.piece_outcomes.specs.declared.outcome.OrderCounted.{OrderCounted}
use Rattle.piece_outcomes.specs.declared.outcome.Gathered.{Gathered}
use Rattle.piece_outcomes.specs.declared.outcome.Gathered.TheVariants as given
use Rattle.piece_outcomes.specs.declared.orders.Known.{Known}
use Rattle.piece_outcomes.specs.declared.orders.Known.TheVariants as what
use Rattle.piece_outcomes.specs.declared.orders.SoFar.{SoFar}
use Rattle.piece_outcomes.specs.Came.{Came, keyed_came}
use Rattle.piece_outcomes.specs.Counting.{taken_by}
use Rattle.piece_outcomes.specs.Outcomes.{AllStand}

-- the fault of a clash in this column, where the columns have these places
abbrev pub column_fault : List ℕ → Option ℕ → Option Fault
column_fault places None = None
column_fault places (Some column) = Some (fault_at XPTY0004 (get_or places column 0))

-- the fault of keys that clash in class with keys before them, at the place of the first such
-- column
abbrev pub clash_at : List ℕ → List KeyList → KeyList → Option Fault
clash_at places before found = column_fault places (clash_column before found)

-- ---- what the outcomes stand for

-- the same fault, whatever keys were seen
pub record MetIs (m : MetFault) (e : Met KeyList Fault) : Type 0 where
  pub step : e.step ≡ m.step
  pub tuple : e.tuple ≡ m.tuple
  pub fault : e.fault ≡ m.fault

-- all that came out, and the classes of its keys
pub record WholeIs {W : Type 0} (stands : W → Came → Type 0) (w : W) (seen : Seen)
    (ks : List Keyed) : Type 0 where
  pub kept : stands w (keyed_came ks)
  pub keys : SeenStandsFor seen (keys_of ks)

abbrev pub OutcomeIs : {W : Type 0} → (W → Came → Type 0) → OrderOutcome W
    → plain.Outcome (List Keyed) KeyList Fault → Type 0
OutcomeIs stands (own.Whole w seen) (plain.whole ks) = WholeIs stands w seen ks
OutcomeIs stands (own.Whole w seen) (plain.met e) = ⊥
OutcomeIs stands (own.Whole w seen) plain.clean = ⊥
OutcomeIs stands (own.Met m seen) (plain.whole ks) = ⊥
OutcomeIs stands (own.Met m seen) (plain.met e) = MetIs m e × SeenStandsFor seen e.seen
OutcomeIs stands (own.Met m seen) plain.clean = ⊥
OutcomeIs stands own.Clean (plain.whole ks) = ⊥
OutcomeIs stands own.Clean (plain.met e) = ⊥
OutcomeIs stands own.Clean plain.clean = Unit {0}

-- a piece that ran at the same limit, with the same numbers of tuples
pub record DoneIs {W : Type 0} (stands : W → Came → Type 0) (d : Done (OrderCounted W))
    (p : plain.PieceDone (List Keyed) KeyList Fault) : Type 0 where
  pub limit : p.limit ≡ d.limit
  pub outcome : OutcomeIs stands d.out.outcome p.out.outcome
  pub into : p.out.into ≡ taken_by d.out.into

abbrev pub AllDone : {W : Type 0} → (W → Came → Type 0) → List (Done (OrderCounted W))
    → List (plain.PieceDone (List Keyed) KeyList Fault) → Type 0
AllDone stands ds ps = AllStand (DoneIs stands) ds ps

-- ---- the order has so many columns

abbrev pub IsWide : {W : Type 0} → ℕ → OrderOutcome W → Type 0
IsWide width (own.Whole w seen) = length seen.columns ≡ width
IsWide width (own.Met m seen) = length seen.columns ≡ width
IsWide width own.Clean = Unit {0}

abbrev pub AllWide : {W : Type 0} → ℕ → List (Done (OrderCounted W)) → Type 0
AllWide width [] = Unit {0}
AllWide width (d ∷ ds) = IsWide width d.out.outcome × AllWide width ds

abbrev pub KnownWide : {W : Type 0} → ℕ → Known W → Type 0
KnownWide width (what.Whole w seen) = length seen.columns ≡ width
KnownWide width (what.Met m) = Unit {0}
KnownWide width (what.Clear l) = Unit {0}

-- ---- what is known

-- of a fault that is known, what was seen does not matter any more
abbrev pub KnownIs : {W : Type 0} → (W → Came → Type 0) → Known W
    → plain.Known (List Keyed) KeyList Fault → Type 0
KnownIs stands (what.Whole w seen) (plain.known (Ok ks)) = WholeIs stands w seen ks
KnownIs stands (what.Whole w seen) (plain.known (Err e)) = ⊥
KnownIs stands (what.Whole w seen) (plain.clear l) = ⊥
KnownIs stands (what.Met m) (plain.known (Ok ks)) = ⊥
KnownIs stands (what.Met m) (plain.known (Err e)) = MetIs m e
KnownIs stands (what.Met m) (plain.clear l) = ⊥
KnownIs stands (what.Clear l) (plain.known r) = ⊥
KnownIs stands (what.Clear l) (plain.clear m) = m ≡ l

pub record SoFarIs {W : Type 0} (stands : W → Came → Type 0) (g : SoFar W)
    (h : plain.SoFar (List Keyed) KeyList Fault) : Type 0 where
  pub what : KnownIs stands g.what h.what
  pub into : h.into ≡ taken_by g.into

-- ---- what is gathered

-- all tuples with their keys, or the first fault
abbrev pub ResultIs : {W : Type 0} → (W → Came → Type 0) → Gathered W
    → Result (List Keyed) (Met KeyList Fault) → Type 0
ResultIs stands (given.Whole w) (Ok ks) = stands w (keyed_came ks)
ResultIs stands (given.Whole w) (Err e) = ⊥
ResultIs stands (given.Met m) (Ok ks) = ⊥
ResultIs stands (given.Met m) (Err e) = MetIs m e

-- where all is known
abbrev pub GatheredIs : {W : Type 0} → (W → Came → Type 0) → Gathered W
    → plain.Known (List Keyed) KeyList Fault → Type 0
GatheredIs stands g (plain.known r) = ResultIs stands g r
GatheredIs stands g (plain.clear l) = ⊥
