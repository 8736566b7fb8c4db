-- A FLWOR over the lines of an input whose files are open: what is meant from its `for` on, and the
-- parts of its first stage.
use Rattle.std.specs.Prelude.{map, ◌≡◌, ℕ, ◌+◌, ◌<◌, Bool, false, List, [], ◌∷◌, length, take, drop, Option, Some, None, Result, true}
use Rattle.item_tree.specs.Datum.{Datum}
use Rattle.seq_types.specs.declared.types.SeqType.{SeqType}
use Rattle.query_tree.specs.declared.bound.Slot.{Slot}
use Rattle.query_tree.specs.declared.bound.Target.{Target}
use Rattle.query_tree.specs.declared.clause.Clause.{Clause}
use Rattle.query_tree.specs.declared.names.Placed.{Placed}
use Rattle.query_tree.specs.Bound.{BoundTree}
use Rattle.query_tree.specs.BoundViews.{bound_tree, bound_clause, bound_clauses, bound_group_vars, bound_order_keys}
use Rattle.query_tree.specs.Compiled.{bound_trees}
use Rattle.query_tree.specs.Plain as p
use Rattle.query_tree.specs.Plain.{PlainClause, PlainClauses, PlainOrderKeys}
use Rattle.query_tree.specs.Scoped.{clause_slots}
use Rattle.query_meaning.specs.Outcome.{OrFault, Outcome, each, ◌>>=◌}
use Rattle.query_meaning.specs.Calls.{Program}
use Rattle.query_meaning.specs.Environment.{Tuple, Environment, Inner, in_tuple}
use Rattle.query_meaning.specs.Meaning.{eval}
use Rattle.query_meaning.specs.Flwors.{flwor_from}
use Rattle.query_meaning.specs.Pieces.{is_narrow}
use Rattle.query_meaning.specs.inside.Views.{tuple_of, lists_of, library_of}
use Rattle.line_pieces.specs.Cuts.{pieces_of}
use Rattle.line_pieces.specs.Pieces.{piece_of, lines_of}
use Rattle.clause_eval.specs.declared.bindings.Binding.{Binding}
use Rattle.clause_stages.specs.Drivers.{line_item}
use Rattle.clause_stages.specs.InputLines.{line_read}
use Rattle.piece_seats.specs.Seats.{first_line}
use Rattle.piece_run.specs.Driven.{MayBegin}
use Rattle.piece_run.specs.Gathering.{lines_before}
use Rattle.clause_stages.specs.Ends.{orders_step}
use Rattle.piece_outcomes.specs.Outcomes.{ResultIs}
use Rattle.piece_outcomes.specs.Orders as order
use Rattle.piece_outcomes.specs.declared.outcome.Gathered.{Gathered}
use Rattle.piece_run.specs.Ends.{StageEnd, end_step}
use Rattle.piece_run.specs.Keying.{GatheredKeyedBy}
use Rattle.piece_run.specs.Kept.{KeptIs}
use Rattle.piece_run.specs.Meanings.{LinesFor, from_for, lines_run}
use Rattle.piece_run.specs.Outcomes.{CameIs}
use Rattle.piece_run.specs.Staged.{stage_inner, stage_environment}
use Rattle.piece_run.specs.declared.came.CameOut.{CameOut}
use Rattle.piece_run.specs.declared.stage.DrivenStage.{DrivenStage}
use Rattle.piece_run.specs.declared.stage.StageEnd as code
use Rattle.piece_run.specs.declared.stage.StageEnd.TheVariants as own
use Rattle.piece_run.specs.declared.driven_flwor.DrivenFlwor.{DrivenFlwor}
use Rattle.piece_run.specs.declared.first_end.FirstEnd.{FirstEnd}
use Rattle.piece_run.specs.declared.first_end.FirstEnd.TheVariants as first
use Rattle.piece_run.specs.declared.leaf_fault.LeafFault.{LeafFault}

-- how it evaluates expressions, and in what
unfoldable pub flwor_program : {F : Type 0} → DrivenFlwor F → Program
flwor_program f = record {
  functions = (bound_trees f.query.now.tree).functions;
  width = f.query.now.width;
  library = library_of f.library.now;
}

unfoldable pub flwor_inner : {F : Type 0} → DrivenFlwor F → Inner
flwor_inner f = eval (flwor_program f) f.depth

unfoldable pub flwor_environment : {F : Type 0} → DrivenFlwor F → Environment
flwor_environment f = record {
  frame = tuple_of f.leading.now;
  globals = lists_of f.globals.now;
  item = None;
}

-- ---- its clauses

-- a `for`, and the clauses after it
pub record ForOver : Type 0 where
  pub variable : Placed Slot
  pub of : Option (Placed SeqType)
  pub at : Option (Placed Slot)
  pub source : BoundTree
  pub rest : PlainClauses Slot Target SeqType

-- a `for` that binds these
abbrev pub for_over : Binding → BoundTree → PlainClauses Slot Target SeqType → ForOver
for_over b source rest = record {
  variable = b.variable.now;
  of = b.of.now;
  at = b.at.now;
  source = source;
  rest = rest;
}

-- after its leading clauses, a FLWOR goes on with this `for`
abbrev pub GoesOn : {F : Type 0} → DrivenFlwor F → ForOver → Type 0
GoesOn f w =
    bound_clauses (drop f.lets f.clauses.now)
    ≡ p.more_clauses (p.for_clause w.variable w.of false w.at w.source) w.rest

-- the clauses after the `for`
abbrev pub after_for : {F : Type 0} → DrivenFlwor F → List (Clause Slot Target SeqType)
after_for f = drop (f.lets + 1) f.clauses.now

-- the slots that its leading clauses bind
abbrev pub leading_slots : {F : Type 0} → DrivenFlwor F → List Slot
leading_slots f = clause_slots (bound_clauses (take f.lets f.clauses.now))

-- the `for`, with that many narrow clauses after it
abbrev pub flwor_lines : {F : Type 0} → DrivenFlwor F → ForOver → ℕ → LinesFor
flwor_lines f w count = record {
  inner = flwor_inner f;
  env = flwor_environment f;
  reading = f.lets;
  place = f.place;
  variable = w.variable;
  of = w.of;
  at = w.at;
  source = w.source;
  tuple = tuple_of f.leading.now;
  clauses = bound_clauses (take count (after_for f));
}

-- the stage of the `for`, and of that many narrow clauses after it
pub record IsFirstStage {F : Type 0} (f : DrivenFlwor F) (b : Binding) (count : ℕ)
    (s : DrivenStage F) : Type 0 where
  pub inner : stage_inner s ≡ flwor_inner f
  pub environment : stage_environment s ≡ flwor_environment f
  pub leading : s.leading.now ≡ f.leading.now
  pub reading : s.reading ≡ f.lets
  pub place : s.place ≡ f.place
  pub binding : s.binding ≡ b
  pub clauses : s.clauses.now ≡ take count (after_for f)
  pub before : s.before.now ≡ f.before.now

-- ---- what is meant

-- what is meant from the `for` on, where its source is evaluated by `outer`
abbrev pub flwor_meant : {F : Type 0} → DrivenFlwor F → ForOver → Inner → Outcome
flwor_meant f w outer =
    from_for outer (flwor_lines f w 0) (leading_slots f) w.rest (bound_tree f.body.now)

-- Where a `for` has a variable for the positions of its items, these are how many lines stand
-- before each piece of the files.
abbrev pub AreNumbered : Option (Placed Slot) → (size : ℕ) → (before : List ℕ)
    → (files : List (List ℕ))
    → Type 0
AreNumbered at size before files = (piece : ℕ) → piece < pieces_of size (map length files)
    → MayBegin at (first_line before piece) (lines_before (piece_of size files) piece + 1)

-- Where the files tell these bytes, and the source of the `for` gives the items of their lines, the
-- answer is what is meant.
abbrev pub MeansLines : {F K : Type 0} → (K → List Datum → Type 0) → DrivenFlwor F
    → List (Option (List ℕ)) → Result K LeafFault → Type 0
MeansLines stands f told answer = (w : ForOver) (files : List (List ℕ)) (outer : Inner)
    → GoesOn f w → told ≡ map Some files
    → AreNumbered w.at f.cut.now.size f.before.now files
    → outer w.source (in_tuple (flwor_environment f) (tuple_of f.leading.now))
    ≡ each (line_item (line_read f.place)) (lines_of files)
    → KeptIs stands answer (flwor_meant f w outer)

-- What was gathered of the first stage, with this end, is what the stage makes of the lines of the
-- files, where these tell their bytes.
abbrev pub GatheredLines : {F I : Type 0} → (I → List Datum → Type 0) → DrivenFlwor F → Binding
    → (count : ℕ) → StageEnd → List (Option (List ℕ)) → Gathered (CameOut I) → Type 0
GatheredLines stands f b count end told g = (source : BoundTree) (files : List (List ℕ))
    → told ≡ map Some files → AreNumbered b.at.now f.cut.now.size f.before.now files
    → ResultIs (CameIs stands) g
    (lines_run (flwor_lines f (for_over b source p.no_clauses) count)
    (end_step (flwor_inner f) (flwor_environment f) end) (lines_of files))

-- the same, where it ends in `order by`
abbrev pub GatheredOrder : {F I : Type 0} → (I → List Datum → Type 0) → DrivenFlwor F → Binding
    → (count : ℕ) → PlainOrderKeys Slot Target SeqType → List (Option (List ℕ))
    → Gathered (CameOut I) → Type 0
GatheredOrder stands f b count keys told g = (source : BoundTree) (files : List (List ℕ))
    → told ≡ map Some files → AreNumbered b.at.now f.cut.now.size f.before.now files
    → order.ResultIs (CameIs stands) g
    (lines_run (flwor_lines f (for_over b source p.no_clauses) count)
    (orders_step (flwor_inner f) keys (flwor_environment f)) (lines_of files))

-- where it ends in `group by`, all tuples that came out have their keys
abbrev pub EndGathered : {I : Type 0} → code.StageEnd → Gathered (CameOut I) → Type 0
EndGathered (own.Items body) g = Unit {0}
EndGathered own.Numbers g = Unit {0}
EndGathered (own.Groups keys) g = GatheredKeyedBy (length keys.now) g

-- what the clauses after the first ones make of tuples that have passed these
abbrev pub rest_meant : {F : Type 0} → DrivenFlwor F → (passed : ℕ) → List Tuple → Outcome
rest_meant f passed tuples =
    flwor_from (flwor_inner f) (passed + 1)
    (clause_slots (bound_clauses (take passed f.clauses.now)))
    (bound_clauses (drop passed f.clauses.now)) (bound_tree f.body.now) (flwor_environment f) tuples

-- the same, of tuples or a fault
abbrev pub then_rest : {F : Type 0} → DrivenFlwor F → (passed : ℕ) → OrFault (List Tuple)
    → Outcome
then_rest f passed tuples = tuples >>= rest_meant f passed

-- ---- what its first stage ends in

-- the clause is this end
abbrev pub EndIs : FirstEnd → PlainClause Slot Target SeqType → Type 0
EndIs first.Return c = ⊥
EndIs (first.Count variable) c = (place : ℕ) × (c ≡ p.count_clause place variable.now)
EndIs (first.Group keys) c = (place : ℕ) × (c ≡ p.group_clause place (bound_group_vars keys.now))
EndIs (first.Order keys) c =
    (place : ℕ) × (stable : Bool) × (c ≡ p.order_clause place stable (bound_order_keys keys.now))

-- the clause is this end, or narrow where there is none
abbrev pub OrNarrow : Option FirstEnd → PlainClause Slot Target SeqType → Type 0
OrNarrow None c = is_narrow c ≡ true
OrNarrow (Some end) c = EndIs end c

-- the first of these clauses is this end, and `return` where there is none
abbrev pub EndsIn : FirstEnd → List (Clause Slot Target SeqType) → Type 0
EndsIn end [] = end ≡ first.Return
EndsIn end (c ∷ cs) = EndIs end (bound_clause c)
