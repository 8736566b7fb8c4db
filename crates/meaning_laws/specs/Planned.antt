-- What a run by a plan needs of its library: the names that are read beside the drivers.
use Rattle.std.specs.Prelude.{◌≡◌, ℕ, Bool, ◌⊎◌, true, None, Some, List}
use Rattle.std.specs.List.{All}
use Rattle.item_tree.specs.declared.functions.FnId.{FnId}
use Rattle.seq_types.specs.declared.types.SeqType.{SeqType}
use Rattle.query_tree.specs.declared.bound.Slot.{Slot}
use Rattle.query_tree.specs.declared.bound.Target.{Target}
use Rattle.query_tree.specs.declared.bound.Target.TheVariants.{Built}
use Rattle.query_tree.specs.Bound.{BoundTree}
use Rattle.query_tree.specs.Compiled.{BoundTrees}
use Rattle.query_tree.specs.Plain as p
use Rattle.query_tree.specs.Plain.{PlainClauses}
use Rattle.mode_planner.specs.Beside.{drivers, stand_once, names_beside}
use Rattle.mode_planner.specs.Drivers.{DriverPlan}
use Rattle.mode_planner.specs.Laws.{HasDriver}
use Rattle.mode_planner.specs.Plans.{LeafPlan, plan}
use Rattle.mode_planner.specs.Spine.{handlers}
use Rattle.query_meaning.specs.Library.{Library}
use Rattle.query_meaning.specs.Calls.{Program}
use Rattle.query_meaning.specs.Queries.{program_of, globals_value}
use Rattle.meaning_laws.specs.Agreement.{AgreeOn, SameFunctions, CallsTheSame}
use Rattle.meaning_laws.specs.Beside.{StandsIn, flwor_of}

-- an expression is the leaf, or the one argument of the call of a function that the leaf is
abbrev pub IsDriven : BoundTree → BoundTree → Type 0
IsDriven leaf t = (leaf ≡ t)
    ⊎ ((place : ℕ) × (id : FnId)
    × (leaf ≡ p.tree_node place (p.call_form (Built id) (p.more_trees t p.no_trees))))

-- In the FLWOR of a leaf that is driven, the calls in the clauses before and after the driver, and
-- in `return`, find the same.
pub record PartsTheSame (program other : Program) (l : LeafPlan) : Type 0 where
  pub parts : (place at : ℕ) (clauses : PlainClauses Slot Target SeqType) (result : BoundTree)
      (d : DriverPlan) → l.driver ≡ Some d
      → IsDriven l.tree (p.tree_node place (p.flwor_form clauses at result))
      → (has : HasDriver clauses d)
      → CallsTheSame (flwor_of place at has.before result) program other
      × CallsTheSame (flwor_of place at has.after result) program other

-- All calls of a query but its drivers find the same over two libraries.
pub record RunsTheSame (width : ℕ) (m : BoundTrees) (library other : Library)
    (planned : List LeafPlan) : Type 0 where
  pub functions : SameFunctions (program_of width m library) (program_of width m other)
  pub variables : globals_value width m library ≡ globals_value width m other
  -- the handlers of each `try` in the spine
  pub handlers : All (λ t. CallsTheSame t (program_of width m library) (program_of width m other))
      (handlers m.body)
  -- each leaf is an expression of the query
  pub stand : All (λ l. StandsIn m l.tree) planned
  -- the leaves without a driver
  pub whole : All (λ l. l.driver ≡ None
      → CallsTheSame l.tree (program_of width m library) (program_of width m other)) planned
  pub driven : All (PartsTheSame (program_of width m library) (program_of width m other)) planned

-- Of a query in which each driver stands once, all but the drivers is the same over libraries that
-- agree on the names beside them.
abbrev pub PlansReadBeside : Type 0
PlansReadBeside = (local : Bool) (width : ℕ) (m : BoundTrees) (library other : Library)
    → stand_once (drivers (plan local m.body)) m ≡ true
    → AgreeOn (names_beside (plan local m.body) m) library other
    → RunsTheSame width m library other (plan local m.body)
