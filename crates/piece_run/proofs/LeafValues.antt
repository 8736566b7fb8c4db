-- The values of leaves that run over files of a world.
use Rattle.std.proofs.Common.{◌≡◌, ℕ, ◌+◌, ◌<◌, ◌≤◌, Bool, true, List, [], ◌∷◌, ◌++◌, length, map, flat_map, take, drop, Option, None, Some, Result, Ok, Err, IfSome, sym, ap, ap₂, ◌∙◌, subst, arith}
use Rattle.std.specs.Prelude.{is_some}
use Rattle.std.specs.List.{AllByRecursion}
use Rattle.std.proofs.lemmas.List.{length-map, length-append}
use Rattle.std.proofs.lemmas.List.Elements.{recursion_from_All, All-from_recursion}
use Rattle.item_tree.specs.Datum.{Datum}
use Rattle.item_tree.specs.Faults.{fault_at}
use Rattle.item_tree.specs.declared.code.Code.TheVariants.{FODC0002}
use Rattle.item_tree.specs.declared.fault.Fault.{Fault}
use Rattle.item_reader.specs.Lines.{lines}
use Rattle.seq_types.specs.declared.types.SeqType.{SeqType}
use Rattle.line_pieces.specs.Cuts.{pieces_of, Cutting, HaveLengths}
use Rattle.line_pieces.specs.Laws.{PiecesAreWhole, PiecesAreTold}
use Rattle.line_pieces.specs.Pieces.{piece_of}
use Rattle.line_pieces.specs.declared.fault.PieceFault.{PieceFault}
use Rattle.line_pieces.specs.declared.fault.PieceFault.TheVariants as pieces
use Rattle.outside.specs.World.{World}
use Rattle.query_tree.specs.Bound.{BoundTree}
use Rattle.query_tree.specs.BoundViews.{bound_tree, bound_clause, bound_clauses}
use Rattle.query_tree.specs.Plain as p
use Rattle.query_tree.specs.Scoped.{clause_slots}
use Rattle.query_tree.specs.declared.bound.Slot.{Slot}
use Rattle.query_tree.specs.declared.bound.Target.{Target}
use Rattle.query_tree.specs.declared.clause.Clause.{Clause}
use Rattle.query_tree.specs.declared.names.Placed.{Placed}
use Rattle.query_meaning.specs.Calls.{Program}
use Rattle.query_meaning.specs.Environment.{Tuple, Environment, Inner, in_tuple}
use Rattle.query_meaning.specs.Clauses.{clause_value}
use Rattle.query_meaning.specs.Flwors.{with_slots, flwor_from}
use Rattle.query_meaning.specs.Library.{Library, lines_value}
use Rattle.query_meaning.specs.Meaning.{eval}
use Rattle.query_meaning.specs.Outcome.{Outcome, ◌>>=◌, each}
use Rattle.query_meaning.specs.declared.fault.EvalFault.{EvalFault}
use Rattle.query_meaning.specs.declared.fault.EvalFault.TheVariants as eval_fault
use Rattle.query_meaning.specs.inside.Gives.{FailsAs}
use Rattle.mode_planner.specs.Drivers.{DriverPlan, is_let, clauses_driver}
use Rattle.mode_planner.specs.Laws.{HasDriver, DriversStandFirst}
use Rattle.mode_planner.specs.inside.Views.{driver_of}
use Rattle.meaning_laws.specs.Laws.{FlworsFindCalls}
use Rattle.clause_eval.specs.NarrowRuns.{clauses_value}
use Rattle.clause_stages.specs.Drivers.{line_item}
use Rattle.clause_stages.specs.InputLines.{line_read, InputsAreLines}
use Rattle.driver_files.specs.Driver.{IsToldDriver, told_files}
use Rattle.driver_files.specs.Seats.{files_of}
use Rattle.driver_files.specs.declared.driver.DriverFiles.{DriverFiles}
use Rattle.query_meaning.specs.inside.Views.{tuple_of}
use Rattle.piece_seats.specs.Counting.{AreLinesBefore}
use Rattle.piece_run.specs.Flwors.{ForOver, GoesOn, AreNumbered, MeansLines, flwor_inner, flwor_environment, flwor_meant, leading_slots}
use Rattle.piece_run.specs.declared.driven_flwor.DrivenFlwor.{DrivenFlwor}
use Rattle.piece_run.specs.Kept.{KeptIs, of_opening, of_evaluation}
use Rattle.piece_run.specs.Leading.{AreLets}
use Rattle.piece_run.specs.Leaf.{leaf_program, leaf_environment, ReadsNames, SameBeside, missing_fault, lets_value, leaf_meant, FindsBeside, IsDrivenOf, MeansOver, MeansAfter}
use Rattle.piece_run.specs.declared.leaf_run.LeafFlwor.{LeafFlwor}
use Rattle.piece_run.specs.declared.leaf_run.LeafRun.{LeafRun}
use Rattle.piece_run.specs.declared.leaf_fault.LeafFault.{LeafFault}
use Rattle.piece_run.specs.declared.leaf_fault.LeafFault.TheVariants as leaf
use Rattle.piece_run.proofs.LeadingLets.{IsOneTuple, lets_one, lines_meant}
use Rattle.piece_run.proofs.LeafMeans.{driver_call, driver_for, all_parts, before_listed, before_are, rest_are, lets_fault, flwor_is, source_faults}
use Rattle.piece_run.proofs.LoneRuns.{lengths_are, pieces_told}
use Rattle.piece_run.proofs.NamesFound.{all_told, lines_found, lines_missing}

-- ---- where opening failed

pub opening_says : {K : Type 0} (stands : K → List Datum → Type 0) (fault : PieceFault) (meant : Outcome) → KeptIs stands (Err (of_opening fault)) meant
opening_says stands pieces.ReadFault meant = tt
opening_says stands pieces.NoMemory meant = tt

pub told_all : {P : World → Type 0} (world : Option World) → ((w : World) → P w) → IfSome world P
told_all None f = tt
told_all (Some w) f = f w

-- ---- a lone call

module _ {K : Type 0} (stands : K → List Datum → Type 0) (names : List (List ℕ)) (place : ℕ) (answer : Result K LeafFault) where
  abbrev pub LinesKept : World → Library → Type 0
  LinesKept w library = ReadsNames w library names → KeptIs stands answer (lines_value library names place)

  pub lines_of_files : {S : Type 0} (workers wanted : ℕ) (d : DriverFiles S) → InputsAreLines → (world : Option World)
      → ((files : List (List ℕ)) → told_files world names ≡ map Some files → KeptIs stands answer (each (line_item (line_read place)) (flat_map lines files)))
      → IfSome world (λ w. (library : Library) → IsToldDriver w names workers wanted d → LinesKept w library)
  lines_of_files workers wanted d law None h = tt
  lines_of_files workers wanted d law (Some w) h = λ library is reads.
      subst (KeptIs stands answer) (sym (lines_found law library w names is.files place reads is.there)) (h is.files (all_told w names is.files is.there))

  pub lines_open : {S : Type 0} (workers wanted : ℕ) (d : DriverFiles S) (world : Option World) → IfSome world (λ w. IsToldDriver w names workers wanted d)
      → IfSome world (λ w. (library : Library) → IsToldDriver w names workers wanted d → LinesKept w library) → IfSome world (λ w. (library : Library) → LinesKept w library)
  lines_open workers wanted d None is h = tt
  lines_open workers wanted d (Some w) is h = λ library. h library is

pub lines_lost : {K : Type 0} (stands : K → List Datum → Type 0) (names : List (List ℕ)) (place : ℕ) (world : Option World) → IfSome world (λ w. files_of w names ≡ None)
    → IfSome world (λ w. (library : Library) → LinesKept stands names place (Err (leaf.Raised (fault_at FODC0002 place))) w library)
lines_lost stands names place None h = tt
lines_lost stands names place (Some w) h = λ library reads. lines_missing library w names place reads h

-- ---- the `let`s before a driver

lets_listed : (cs : List (Clause Slot Target SeqType)) → AllByRecursion (λ c. is_let c ≡ true) (map bound_clause cs) → AllByRecursion (λ c. is_let (bound_clause c) ≡ true) cs
lets_listed [] h = tt
lets_listed (c ∷ cs) h = (h.0, lets_listed cs h.1)

module _ (first : DriversStandFirst) (cs : List (Clause Slot Target SeqType)) (d : DriverPlan) (driven : clauses_driver 0 (bound_clauses cs) ≡ Some d) where
  abbrev pub has : HasDriver (bound_clauses cs) d
  has = first.found (bound_clauses cs) d driven

  pub are_lets : AreLets (take d.lets cs)
  are_lets =
      let taken : map bound_clause (take d.lets cs) ≡ has.before = before_listed cs d has in
      All-from_recursion (λ c. is_let (bound_clause c) ≡ true) (take d.lets cs)
      (lets_listed (take d.lets cs) (subst (AllByRecursion (λ c. is_let c ≡ true)) (sym taken) (recursion_from_All (λ c. is_let c ≡ true) has.before has.lets)))

  pub lets_within : d.lets + 1 ≤ length cs
  lets_within =
      let all : length cs ≡ length (map bound_clause cs) = sym (length-map cs bound_clause) in
      let parts : length (map bound_clause cs) ≡ length (has.before ++ driver_for has ∷ has.after) = ap length (all_parts cs d has) in
      let sum : length (has.before ++ driver_for has ∷ has.after) ≡ length has.before + length (driver_for has ∷ has.after) = length-append has.before (driver_for has ∷ has.after) in
      omega (arith, all, parts, sum, has.counted)

-- ---- a FLWOR whose files are open

module _ (first : DriversStandFirst) (law : FlworsFindCalls) {F R G K : Type 0} (stands : K → List Datum → Type 0) (r : LeafRun F R G) (f : LeafFlwor) (driven : clauses_driver 0 (bound_clauses f.clauses.now) ≡ Some (driver_of f.driver)) where
  abbrev plan : DriverPlan
  plan = driver_of f.driver

  abbrev its : HasDriver (bound_clauses f.clauses.now) plan
  its = has first f.clauses.now plan driven

  -- the tuple that the `let`s give
  abbrev LeadsTo : Tuple → Type 0
  LeadsTo tuple = clauses_value (eval (leaf_program r) f.depth) 1 [] (p.clauses_of Slot Target SeqType its.before) (leaf_environment r) ((leaf_environment r).frame ∷ []) ≡ Ok (tuple ∷ [])

  leads : (tuple : Tuple) → lets_value r (take f.driver.lets f.clauses.now) f.depth ≡ Ok (tuple ∷ []) → LeadsTo tuple
  leads tuple h =
      subst (λ cs. clauses_value (eval (leaf_program r) f.depth) 1 [] cs (leaf_environment r) ((leaf_environment r).frame ∷ []) ≡ Ok (tuple ∷ [])) (before_are f.clauses.now plan its) h

  same_width : (tuple : Tuple) → LeadsTo tuple → length tuple ≡ length (leaf_environment r).frame
  same_width tuple h = of_one (subst (IsOneTuple (length (leaf_environment r).frame)) h (lets_one (eval (leaf_program r) f.depth) 1 [] its.before (recursion_from_All (λ c. is_let c ≡ true) its.before its.lets) (leaf_environment r) (leaf_environment r).frame))
    where
      of_one : IsOneTuple (length (leaf_environment r).frame) (Ok (tuple ∷ [])) → length tuple ≡ length (leaf_environment r).frame
      of_one one = let same : tuple ∷ [] ≡ one.0 ∷ [] = one.1 in let is : tuple ≡ one.0 = cc in ap length is ∙ one.2

  -- a fault of the `let`s
  pub let_fault_meant : (full : Program) (fault : Fault) → SameBeside full (leaf_program r) (bound_clauses f.clauses.now) (bound_tree f.body.now) plan
      → lets_value r (take f.driver.lets f.clauses.now) f.depth ≡ Err fault → leaf_meant r f full ≡ Err fault
  let_fault_meant full fault same h =
      lets_fault law full (leaf_program r) f.depth (bound_clauses f.clauses.now) (bound_tree f.body.now) plan its same (leaf_environment r) fault
      (subst (λ cs. clauses_value (eval (leaf_program r) f.depth) 1 [] cs (leaf_environment r) ((leaf_environment r).frame ∷ []) ≡ Err fault) (before_are f.clauses.now plan its) h)

  module _ (some : 0 < f.depth) (tuple : Tuple) (full : Program) (finds : FindsBeside r f tuple full) where
    -- the input is missing
    pub missing_meant : lines_value full.library f.driver.names.now f.driver.place ≡ Err (fault_at FODC0002 f.driver.place) → leaf_meant r f full ≡ Err (missing_fault plan)
    missing_meant h =
        source_faults law full (leaf_program r) f.depth (bound_clauses f.clauses.now) (bound_tree f.body.now) plan its finds.same (leaf_environment r) tuple (leads tuple finds.leading) (same_width tuple (leads tuple finds.leading))
        (fault_at FODC0002 f.driver.place)
        (lines_meant full f.depth f.driver.place f.driver.names.now its.arguments (in_tuple (leaf_environment r) tuple) some ∙ h)

    -- what is meant from the `for` on
    abbrev from_driver : Outcome
    from_driver =
        clause_value (eval full f.depth) (f.driver.lets + 1) (clause_slots (p.clauses_of Slot Target SeqType its.before)) (driver_for its) (in_tuple (leaf_environment r) tuple) (tuple ∷ [])
        >>= flwor_from (eval (leaf_program r) f.depth) (f.driver.lets + 2) (with_slots (clause_slots (p.clauses_of Slot Target SeqType its.before)) (driver_for its)) (p.clauses_of Slot Target SeqType its.after) (bound_tree f.body.now) (in_tuple (leaf_environment r) tuple)

    whole_meant : leaf_meant r f full ≡ from_driver
    whole_meant =
        flwor_is law full (leaf_program r) f.depth (bound_clauses f.clauses.now) (bound_tree f.body.now) plan its finds.same (leaf_environment r) tuple (leads tuple finds.leading) (same_width tuple (leads tuple finds.leading))

    -- the call of the driver
    source_meant : (files : List (List ℕ)) → lines_value full.library f.driver.names.now f.driver.place ≡ each (line_item (line_read f.driver.place)) (flat_map lines files)
        → eval full f.depth (driver_call its) (in_tuple (leaf_environment r) tuple) ≡ each (line_item (line_read f.driver.place)) (flat_map lines files)
    source_meant files h = lines_meant full f.depth f.driver.place f.driver.names.now its.arguments (in_tuple (leaf_environment r) tuple) some ∙ h

-- where lines are counted for a `for` that numbers them
counted_are : (position : Bool) (at : Option (Placed Slot)) (cut : Cutting) (told : List (Option (List ℕ))) (before : List ℕ) (files : List (List ℕ)) → position ≡ is_some at
    → PiecesAreWhole → PiecesAreTold → 0 < cut.size → HaveLengths cut.lengths told → told ≡ map Some files
    → (position ≡ true → AreLinesBefore cut told before) → AreNumbered at cut.size before files
counted_are position None cut told before files same whole told_law some held is counted = λ piece low. tt
counted_are position (Some at) cut told before files same whole told_law some held is counted = λ piece low.
    let lines_are = counted same in
    let here : piece < pieces_of cut.size cut.lengths = subst (λ (ns : List ℕ). piece < pieces_of cut.size ns) (sym (lengths_are whole told_law cut some told held files is)) low in
    let listed : piece < length before = subst (λ (n : ℕ). piece < n) (sym lines_are.count) here in
    ap (λ (n : ℕ). n + 1)
    (sym (lines_are.sums (piece_of cut.size files) piece listed (λ q below. pieces_told whole told_law cut some told held files is q (omega (arith, below, here)))))

-- ---- a run over files

module _ (first : DriversStandFirst) (law : FlworsFindCalls) (whole : PiecesAreWhole) (told_law : PiecesAreTold) {F R G K : Type 0} (stands : K → List Datum → Type 0) (r : LeafRun F R G) (f : LeafFlwor) (driven : clauses_driver 0 (bound_clauses f.clauses.now) ≡ Some (driver_of f.driver))
    (some : 0 < f.depth) (tuple : Tuple) (told : List (Option (List ℕ))) (d : DrivenFlwor F) where
  abbrev driver_has : HasDriver (bound_clauses f.clauses.now) (driver_of f.driver)
  driver_has = has first f.clauses.now (driver_of f.driver) driven

  abbrev pub over : ForOver
  over = record {
    variable = driver_has.variable;
    of = driver_has.type;
    at = driver_has.at;
    source = driver_call driver_has;
    rest = p.clauses_of Slot Target SeqType driver_has.after;
  }

  module _ (counts : List ℕ) (pieces : Cutting) (is : IsDrivenOf r f tuple pieces counts d) where
    slots_are : leading_slots d ≡ clause_slots (p.clauses_of Slot Target SeqType driver_has.before)
    slots_are =
        ap₂ (λ (n : ℕ) (cs : List (Clause Slot Target SeqType)). clause_slots (bound_clauses (take n cs))) is.lets is.clauses
        ∙ ap clause_slots (before_are f.clauses.now (driver_of f.driver) driver_has)

    pub goes_on : GoesOn d over
    goes_on =
        ap₂ (λ (n : ℕ) (cs : List (Clause Slot Target SeqType)). bound_clauses (drop n cs)) is.lets is.clauses
        ∙ rest_are f.clauses.now (driver_of f.driver) driver_has

    pub means_over : (answer : Result K LeafFault) → 0 < pieces.size → HaveLengths pieces.lengths told → (f.driver.position ≡ true → AreLinesBefore pieces told counts) → MeansLines stands d told answer
        → MeansOver stands r f tuple told answer
    means_over answer cut_some held counted means full files finds tells gives =
        let outer = eval full f.depth in
        let E = in_tuple (leaf_environment r) tuple in
        let whole_for = driver_for driver_has in
        let G : ℕ → List Slot → Environment → Tuple → Inner → BoundTree → Outcome = λ n slots env t inner body.
        clause_value outer (n + 1) slots whole_for env (t ∷ []) >>= flwor_from inner (n + 2) (with_slots slots whole_for) (p.clauses_of Slot Target SeqType driver_has.after) body env in
        let body : bound_tree d.body.now ≡ bound_tree f.body.now = ap bound_tree is.body in
        let same : flwor_meant d over outer ≡ from_driver first law stands r f driven some tuple full finds =
        ap (λ (n : ℕ). G n (leading_slots d) (flwor_environment d) (tuple_of d.leading.now) (flwor_inner d) (bound_tree d.body.now)) is.lets
        ∙ ap (λ (slots : List Slot). G f.driver.lets slots (flwor_environment d) (tuple_of d.leading.now) (flwor_inner d) (bound_tree d.body.now)) slots_are
        ∙ ap (λ (env : Environment). G f.driver.lets (clause_slots (p.clauses_of Slot Target SeqType driver_has.before)) env (tuple_of d.leading.now) (flwor_inner d) (bound_tree d.body.now)) is.environment
        ∙ ap (λ (t : Tuple). G f.driver.lets (clause_slots (p.clauses_of Slot Target SeqType driver_has.before)) E t (flwor_inner d) (bound_tree d.body.now)) is.slots
        ∙ ap (λ (inner : Inner). G f.driver.lets (clause_slots (p.clauses_of Slot Target SeqType driver_has.before)) E tuple inner (bound_tree d.body.now)) is.inner
        ∙ ap (G f.driver.lets (clause_slots (p.clauses_of Slot Target SeqType driver_has.before)) E tuple (eval (leaf_program r) f.depth)) body in
        let source : outer (driver_call driver_has) (in_tuple (flwor_environment d) (tuple_of d.leading.now)) ≡ each (line_item (line_read d.place)) (flat_map lines files) =
        ap₂ (λ (env : Environment) (t : Tuple). outer (driver_call driver_has) (in_tuple env t)) is.environment is.slots
        ∙ source_meant first law stands r f driven some tuple full finds files gives
        ∙ ap (λ (n : ℕ). each (line_item (line_read n)) (flat_map lines files)) (sym is.place) in
        let numbered = subst (λ (c : Cutting). AreNumbered driver_has.at c.size d.before.now files) (sym is.cut)
        (subst (λ (ns : List ℕ). AreNumbered driver_has.at pieces.size ns files) (sym is.before)
        (counted_are f.driver.position driver_has.at pieces told counts files driver_has.position whole told_law cut_some held tells counted)) in
        subst (KeptIs stands answer) (same ∙ sym (whole_meant first law stands r f driven some tuple full finds))
        (means over files outer goes_on tells numbered source)

-- ---- over a world

module _ (first : DriversStandFirst) (law : FlworsFindCalls) (inputs : InputsAreLines) {F R G K : Type 0} (stands : K → List Datum → Type 0) (r : LeafRun F R G) (f : LeafFlwor) (driven : clauses_driver 0 (bound_clauses f.clauses.now) ≡ Some (driver_of f.driver)) (some : 0 < f.depth) (tuple : Tuple) where
  pub after_open : {S : Type 0} (workers wanted : ℕ) (d : DriverFiles S) (answer : Result K LeafFault) (world : Option World) → IfSome world (λ w. IsToldDriver w f.driver.names.now workers wanted d)
      → MeansOver stands r f tuple (told_files world f.driver.names.now) answer → IfSome world (MeansAfter stands r f tuple answer)
  after_open workers wanted d answer None is h = tt
  after_open workers wanted d answer (Some w) is h = λ full finds reads.
      h full is.files finds (all_told w f.driver.names.now is.files is.there) (lines_found inputs full.library w f.driver.names.now is.files f.driver.place reads is.there)

  pub after_missing : (world : Option World) → IfSome world (λ w. files_of w f.driver.names.now ≡ None) → IfSome world (MeansAfter stands r f tuple (Err (leaf.Raised (missing_fault (driver_of f.driver)))))
  after_missing None h = tt
  after_missing (Some w) h = λ full finds reads.
      missing_meant first law stands r f driven some tuple full finds (lines_missing full.library w f.driver.names.now f.driver.place reads h)

  pub after_failed : (fault : PieceFault) (world : Option World) → IfSome world (MeansAfter stands r f tuple (Err (of_opening fault)))
  after_failed fault None = tt
  after_failed fault (Some w) = λ full finds reads. opening_says stands fault (leaf_meant r f full)

-- what a run of a FLWOR says over a world
abbrev pub MeansLeaf : {F R G K : Type 0} → (K → List Datum → Type 0) → LeafRun F R G → LeafFlwor → Result K LeafFault → World → Type 0
MeansLeaf stands r f answer w = (full : Program) → ReadsNames w full.library f.driver.names.now
    → SameBeside full (leaf_program r) (bound_clauses f.clauses.now) (bound_tree f.body.now) (driver_of f.driver) → KeptIs stands answer (leaf_meant r f full)

-- the `let`s give a tuple, and the rest follows
pub after_leading : {F R G K : Type 0} (stands : K → List Datum → Type 0) (r : LeafRun F R G) (f : LeafFlwor) (tuple : Tuple) (answer : Result K LeafFault) (world : Option World)
    → lets_value r (take f.driver.lets f.clauses.now) f.depth ≡ Ok (tuple ∷ []) → IfSome world (MeansAfter stands r f tuple answer) → IfSome world (MeansLeaf stands r f answer)
after_leading stands r f tuple answer None h k = tt
after_leading stands r f tuple answer (Some w) h k = λ full reads same. k full (record { same = same; leading = h }) reads

-- the `let`s fault
pub leading_fails : {F R G K : Type 0} (stands : K → List Datum → Type 0) (first : DriversStandFirst) (law : FlworsFindCalls) (r : LeafRun F R G) (f : LeafFlwor) (driven : clauses_driver 0 (bound_clauses f.clauses.now) ≡ Some (driver_of f.driver))
    (fault : EvalFault) (world : Option World) → FailsAs fault (lets_value r (take f.driver.lets f.clauses.now) f.depth) → IfSome world (MeansLeaf stands r f (Err (of_evaluation fault)))
leading_fails stands first law r f driven fault None h = tt
leading_fails stands first law r f driven (eval_fault.Raised x) (Some w) h = λ full reads same. let_fault_meant first law stands r f driven full x same h
leading_fails stands first law r f driven eval_fault.NoMemory (Some w) h = λ full reads same. tt
