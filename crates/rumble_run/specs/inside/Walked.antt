-- How contracts see the walk over the spine of a body.
use Rattle.std.specs.Prelude.{◌≡◌, ℕ, Bool, true, false, List, [], ◌∷◌, Vec, Option, None, Some, Result}
use Rattle.std.specs.List.{AllByRecursion, flat_map, sum_by}
use Rattle.std.specs.declared.alloc.Global.{Global}
use Rattle.item_tree.specs.Datum.{Datum}
use Rattle.item_tree.specs.declared.code.Code.{Code}
use Rattle.item_tree.specs.declared.item.Item.{Item}
use Rattle.outside.specs.Opens.{InputCounts}
use Rattle.outside.specs.World.{World}
use Rattle.seq_types.specs.declared.types.SeqType.{SeqType}
use Rattle.query_tree.specs.Bound.{BoundTree}
use Rattle.query_tree.specs.declared.bound.Slot.{Slot}
use Rattle.query_tree.specs.declared.bound.Target.{Target}
use Rattle.query_tree.specs.Plain as p
use Rattle.query_tree.specs.Plain.{PlainClauses}
use Rattle.query_tree.specs.Compiled.{CompiledTree, bound_trees}
use Rattle.mode_planner.specs.Drivers.{DriverPlan}
use Rattle.mode_planner.specs.Laws.{HasDriver}
use Rattle.mode_planner.specs.Plans.{leaf_plan}
use Rattle.mode_planner.specs.Spine.{leaves, handlers}
use Rattle.query_meaning.specs.Calls.{Program}
use Rattle.query_meaning.specs.Environment.{Environment}
use Rattle.query_meaning.specs.Meaning.{eval}
use Rattle.query_meaning.specs.Outcome.{Outcome, ◌>>=◌, at_place, each}
use Rattle.query_meaning.specs.Queries.{program_of}
use Rattle.query_meaning.specs.declared.library.Library.{Library}
use Rattle.query_meaning.specs.declared.value.Value.{Value}
use Rattle.query_meaning.specs.inside.Views.{library_of, tuple_of, lists_of}
use Rattle.meaning_laws.specs.Agreement.{CallsTheSame}
use Rattle.meaning_laws.specs.Beside.{flwor_of}
use Rattle.meaning_laws.specs.Planned.{PartsTheSame}
use Rattle.piece_seats.specs.Texts.{IsTextOf}
use Rattle.piece_seats.specs.declared.text.Text.{Text}
use Rattle.rumble_run.specs.inside.LeafCounts.{Drove}
use Rattle.piece_run.specs.Kept.{KeptIs}
use Rattle.rumble_run.specs.Opens.{leaf_opens, leaf_drivers, is_nothing}
use Rattle.driver_files.specs.Seats.{driver_opens}
use Rattle.piece_run.specs.Leaf.{ReadsNames}
use Rattle.piece_run.specs.declared.leaf_fault.LeafFault.{LeafFault}
use Rattle.rumble_run.specs.declared.walk.Walk.{Walk}

-- ---- what is printed

-- the text of these items
abbrev pub Prints : Text → List Datum → Type 0
Prints text items = IsTextOf items text.bytes.items text.items

-- ---- with what an expression on the spine is evaluated

abbrev pub own_program : CompiledTree → Library → Program
own_program query library =
    program_of query.width (bound_trees query.tree) (library_of library)

abbrev pub own_environment : List Value → List (Vec Item Global) → Environment
own_environment frame globals =
    record { frame = tuple_of frame; globals = lists_of globals; item = None }

-- the run's own program, whose library has the inputs beside the drivers; the environment of the
-- body; and how drivers are run
pub record Setting : Type 0 where
  pub own : Program
  pub env : Environment
  pub workers : ℕ
  pub size : ℕ

abbrev pub setting_of : {R G : Type 0} → Walk R G → Setting
setting_of walk = record {
  own = own_program walk.query.now walk.library.now;
  env = own_environment walk.frame.now walk.globals.now;
  workers = walk.workers;
  size = walk.size;
}

-- ---- what stands on the spine, and what it finds

abbrev pub leaf_driver : BoundTree → Option DriverPlan
leaf_driver t = (leaf_plan false t).driver

-- All that a leaf looks for is the same in the run's own program and in a full one, but for the
-- names of its driver, of which the full one has what the world has.
pub record LeafFinds (own full : Program) (w : World) (t : BoundTree) : Type 0 where
  pub whole : leaf_driver t ≡ None → CallsTheSame t full own
  pub driven : PartsTheSame full own (leaf_plan false t)
  pub read : (d : DriverPlan) → leaf_driver t ≡ Some d → ReadsNames w full.library d.names

-- It is so of the leaves of expressions on the spine; and the handlers find the same.
pub record Finds (own full : Program) (w : World) (ts : List BoundTree) : Type 0 where
  pub handlers : AllByRecursion (λ u. CallsTheSame u full own) (flat_map handlers ts)
  pub leaves : AllByRecursion (LeafFinds own full w) (flat_map leaves ts)

-- ---- what drivers open

abbrev pub files_on : World → (workers size : ℕ) → List BoundTree → ℕ
files_on w workers size ts = sum_by (leaf_opens w workers size) (flat_map leaves ts)

abbrev pub drivers_on : List BoundTree → ℕ
drivers_on ts = sum_by leaf_drivers (flat_map leaves ts)

-- whether there is no handler, which could hide a fault
abbrev pub none_handled : List BoundTree → Bool
none_handled ts = is_nothing (flat_map handlers ts)

-- ---- the walk

-- What is kept of expressions that stand on the spine one after another, and what the walk over
-- them leaves, over a told world.
pub record Walked {K : Type 0} (stands : K → List Datum → Type 0) (s : Setting) (w : World)
    (depth : ℕ) (ts : List BoundTree) (result : Result K LeafFault) (before after : InputCounts)
    : Type 0 where
  pub value : (full : Program) → Finds s.own full w ts
      → KeptIs stands result (each (λ t. eval full depth t s.env) ts)
  pub drove :
      Drove result (none_handled ts) (files_on w s.workers s.size ts) (drivers_on ts) before after

-- ---- an expression that a driver drives

-- what a function gives of the items that an expression comes to, at the place of its call
abbrev pub value_over : ℕ → (List Datum → Result (List Datum) Code) → Outcome → Outcome
value_over place f meant = meant >>= λ vs. at_place place (f vs)

-- All that a FLWOR looks for before and after its driver is the same, and of the names of the
-- driver the full program has what the world has.
pub record DrivenFinds (own full : Program) (w : World) (t : BoundTree) (d : DriverPlan)
    : Type 0 where
  pub read : ReadsNames w full.library d.names
  pub parts : (place at : ℕ) (clauses : PlainClauses Slot Target SeqType) (result : BoundTree)
      → t ≡ p.tree_node place (p.flwor_form clauses at result) → (has : HasDriver clauses d)
      → CallsTheSame (flwor_of place at has.before result) full own
      × CallsTheSame (flwor_of place at has.after result) full own

-- What is kept of such an expression, or of what is made of it, and what is left, over a told
-- world.
pub record Drives {K : Type 0} (stands : K → List Datum → Type 0) (s : Setting) (w : World)
    (t : BoundTree) (d : DriverPlan) (meant : Program → Outcome) (result : Result K LeafFault)
    (before after : InputCounts) : Type 0 where
  pub value : (full : Program) → DrivenFinds s.own full w t d → KeptIs stands result (meant full)
  pub drove : Drove result true (driver_opens w s.workers s.size d.names) 1 before after
