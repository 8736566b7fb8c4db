-- A leaf that is run over the pieces of its input, on workers.
use Rattle.std.specs.Prelude.{◌≡◌, ◌≤◌, ◌+◌, ℕ, List, [], ◌∷◌, Vec, vec_len, take, map, flat_map, sum_by, All, Option, Some, None, Result, Ok, Err, IfSome}
use Rattle.std.specs.declared.alloc.Global.{Global}
use Rattle.item_tree.specs.Datum.{Datum}
use Rattle.item_tree.specs.declared.code.Code.TheVariants.{FODC0002}
use Rattle.item_tree.specs.declared.fault.Fault.{Fault}
use Rattle.item_reader.specs.Lines.{lines}
use Rattle.outside.specs.Counted.{Rose}
use Rattle.outside.specs.Opens.{InputCounts}
use Rattle.outside.specs.World.{World}
use Rattle.query_tree.specs.Bound.{BoundTree}
use Rattle.query_tree.specs.BoundViews.{bound_tree, bound_clauses}
use Rattle.query_tree.specs.Compiled.{bound_trees}
use Rattle.query_tree.specs.Plain.{PlainClauses}
use Rattle.query_tree.specs.declared.bound.Slot.{Slot}
use Rattle.query_tree.specs.declared.clause.Clause.{Clause}
use Rattle.query_tree.specs.declared.bound.Target.{Target}
use Rattle.seq_types.specs.declared.types.SeqType.{SeqType}
use Rattle.query_meaning.specs.Calls.{Program}
use Rattle.query_meaning.specs.Environment.{Environment, Tuple, in_tuple}
use Rattle.query_meaning.specs.Flwors.{flwor_value}
use Rattle.query_meaning.specs.Meaning.{eval}
use Rattle.query_meaning.specs.Outcome.{OrFault, Outcome, each}
use Rattle.query_meaning.specs.Library.{Library, held, lines_value}
use Rattle.query_meaning.specs.inside.Computed.{read_of}
use Rattle.query_meaning.specs.inside.Views.{tuple_of, lists_of, library_of}
use Rattle.line_pieces.specs.Cuts.{Cutting}
use Rattle.mode_planner.specs.Drivers.{DriverPlan}
use Rattle.mode_planner.specs.Laws.{HasDriver}
use Rattle.mode_planner.specs.inside.Views.{driver_of}
use Rattle.clause_eval.specs.NarrowRuns.{clauses_value}
use Rattle.clause_stages.specs.Drivers.{line_item}
use Rattle.clause_stages.specs.InputLines.{line_read}
use Rattle.meaning_laws.specs.Agreement.{CallsTheSame}
use Rattle.meaning_laws.specs.Beside.{flwor_of}
use Rattle.driver_files.specs.Counts.{RoseBy, NoCountFalls, IsBalanced}
use Rattle.driver_files.specs.Seats.{driver_opens}
use Rattle.piece_seats.specs.declared.seat.Seat.{Seat}
use Rattle.piece_run.specs.Flwors.{flwor_inner, flwor_environment}
use Rattle.piece_run.specs.Kept.{KeptIs}
use Rattle.piece_run.specs.declared.driven_flwor.DrivenFlwor.{DrivenFlwor}
use Rattle.piece_run.specs.declared.leaf_run.LeafFlwor.{LeafFlwor}
use Rattle.piece_run.specs.declared.leaf_run.LeafRun.{LeafRun}
use Rattle.piece_run.specs.declared.leaf_fault.LeafFault.{LeafFault}
use Rattle.piece_run.specs.declared.leaf_fault.LeafFault.TheVariants as leaf

-- ---- what a leaf is evaluated in

-- the run's own program
unfoldable pub leaf_program : {F R G : Type 0} → LeafRun F R G → Program
leaf_program r = record {
  functions = (bound_trees r.query.now.tree).functions;
  width = r.query.now.width;
  library = library_of r.library.now;
}

unfoldable pub leaf_environment : {F R G : Type 0} → LeafRun F R G → Environment
leaf_environment r = record {
  frame = tuple_of r.frame.now;
  globals = lists_of r.globals.now;
  item = None;
}

-- A library holds of each of these names what its file reads as, where there is one.
abbrev pub ReadsNames : World → Library → List (List ℕ) → Type 0
ReadsNames world library names = All (λ name. held library name ≡ read_of world name) names

-- In a FLWOR with this driver, all calls before and after the driver find the same in both programs.
pub record SameBeside (program other : Program) (clauses : PlainClauses Slot Target SeqType)
    (body : BoundTree) (d : DriverPlan) : Type 0 where
  pub place : ℕ
  pub at : ℕ
  pub parts : (has : HasDriver clauses d)
      → CallsTheSame (flwor_of place at has.before body) program other
      × CallsTheSame (flwor_of place at has.after body) program other

-- a name of the driver is missing: the fault leaves the `for`, at its one tuple
abbrev pub missing_fault : DriverPlan → Fault
missing_fault d = record {
  code = FODC0002;
  place = d.place;
  spot = Some (record { clause = d.lets + 1; tuple = 1 });
}

-- ---- a FLWOR

-- what the `let`s give for the frame that the leaf begins with
abbrev pub lets_value : {F R G : Type 0} → LeafRun F R G → List (Clause Slot Target SeqType)
    → (depth : ℕ) → OrFault (List Tuple)
lets_value r lets depth =
    clauses_value (eval (leaf_program r) depth) 1 [] (bound_clauses lets) (leaf_environment r)
    ((leaf_environment r).frame ∷ [])

-- what a FLWOR means in a program
abbrev pub leaf_meant : {F R G : Type 0} → LeafRun F R G → LeafFlwor → Program → Outcome
leaf_meant r f full =
    flwor_value (eval full f.depth) (bound_clauses f.clauses.now) (bound_tree f.body.now)
    (leaf_environment r)

-- In this program all calls beside the driver find the same, and the `let`s give this tuple.
pub record FindsBeside {F R G : Type 0} (r : LeafRun F R G) (f : LeafFlwor) (tuple : Tuple)
    (full : Program) : Type 0 where
  pub same : SameBeside full (leaf_program r) (bound_clauses f.clauses.now) (bound_tree f.body.now)
      (driver_of f.driver)
  pub leading : lets_value r (take f.driver.lets f.clauses.now) f.depth ≡ Ok (tuple ∷ [])

-- A FLWOR over open files is that of the leaf, after its `let`s, which have given these slots.
pub record IsDrivenOf {F R G : Type 0} (r : LeafRun F R G) (f : LeafFlwor) (given : Tuple)
    (pieces : Cutting) (counted : List ℕ) (d : DrivenFlwor F) : Type 0 where
  pub evaluator : d.evaluator ≡ r.evaluator
  pub depth : d.depth ≡ f.depth
  pub clauses : d.clauses.now ≡ f.clauses.now
  pub body : d.body.now ≡ f.body.now
  pub lets : d.lets ≡ f.driver.lets
  pub place : d.place ≡ f.driver.place
  pub cut : d.cut.now ≡ pieces
  pub before : d.before.now ≡ counted
  pub inner : flwor_inner d ≡ eval (leaf_program r) f.depth
  pub environment : flwor_environment d ≡ in_tuple (leaf_environment r) given
  pub slots : tuple_of d.leading.now ≡ given

-- Over files that tell this, the answer is what is meant, where they are what the driver reads.
abbrev pub MeansOver : {F R G K : Type 0} → (K → List Datum → Type 0) → LeafRun F R G → LeafFlwor
    → Tuple → List (Option (List ℕ)) → Result K LeafFault → Type 0
MeansOver stands r f tuple told answer = (full : Program) (files : List (List ℕ))
    → FindsBeside r f tuple full → told ≡ map Some files
    → lines_value full.library f.driver.names.now f.driver.place
    ≡ each (line_item (line_read f.driver.place)) (flat_map lines files)
    → KeptIs stands answer (leaf_meant r f full)

-- Over a world it is, where the program reads the driver's names of this world.
abbrev pub MeansAfter : {F R G K : Type 0} → (K → List Datum → Type 0) → LeafRun F R G → LeafFlwor
    → Tuple → Result K LeafFault → World → Type 0
MeansAfter stands r f tuple answer world = (full : Program) → FindsBeside r f tuple full
    → ReadsNames world full.library f.driver.names.now
    → KeptIs stands answer (leaf_meant r f full)

-- ---- seats

abbrev pub seat_files : {S : Type 0} → Seat S → Vec S Global
seat_files s = s.files

-- how many files all workers have
abbrev pub files_of_seats : {S : Type 0} → List (Seat S) → ℕ
files_of_seats seats = sum_by (λ s. vec_len s.files) seats

-- and how often calls on them have failed
abbrev pub faults_of_seats : {S : Type 0} → (S → ℕ) → List (Seat S) → ℕ
faults_of_seats faults seats = sum_by (λ s. sum_by faults s.files.items) seats

-- ---- counts

-- faults rise where reading failed; no call has failed where there is an answer
abbrev pub FaultLeaves : LeafFault → ℕ → ℕ → Type 0
FaultLeaves (leaf.Raised fault) before after = after ≡ before
FaultLeaves leaf.ReadFault before after = Rose before after
FaultLeaves leaf.NoMemory before after = Unit {0}

abbrev pub FaultsBy : {K : Type 0} → Result K LeafFault → ℕ → ℕ → Type 0
FaultsBy (Ok kept) before after = after ≡ before
FaultsBy (Err fault) before after = FaultLeaves fault before after

-- what a run over n open files leaves of the counts, once they are all closed
pub record ClosesDriver {K : Type 0} (n : ℕ) (result : Result K LeafFault)
    (before after : InputCounts) : Type 0 where
  pub closed : RoseBy n before.closed after.closed
  pub opened : after.opened ≡ before.opened
  pub misses : after.misses ≡ before.misses
  pub rises : before.faults ≤ after.faults
  pub faults : FaultsBy result before.faults after.faults

-- just so many files are opened where there is a value, and else so many at most
abbrev pub OpensBy : {K : Type 0} → ℕ → Result K LeafFault → ℕ → ℕ → Type 0
OpensBy n (Ok kept) before after = RoseBy n before after
OpensBy n (Err fault) before after = after ≤ before + n

-- no name is missing where there is a value, and else one at most
abbrev pub MissesBy : {K : Type 0} → Result K LeafFault → ℕ → ℕ → Type 0
MissesBy (Ok kept) before after = after ≡ before
MissesBy (Err fault) before after = after ≤ before + 1

-- What the run of a leaf leaves of the counts. No file is left open.
pub record LeafCounts {K : Type 0} (world : Option World) (names : List (List ℕ))
    (workers wanted : ℕ) (result : Result K LeafFault) (before after : InputCounts) : Type 0 where
  pub balanced : IsBalanced before after
  pub falls : NoCountFalls before after
  pub faults : FaultsBy result before.faults after.faults
  pub opened : IfSome world (λ w.
      OpensBy (driver_opens w workers wanted names) result before.opened after.opened)
  pub misses : IfSome world (λ w. MissesBy result before.misses after.misses)
