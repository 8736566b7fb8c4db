-- Plans whose drivers stand once. Where a query has as many calls that drivers are as it has
-- drivers, no other call is taken for one, so all else in the query stands beside the drivers.
use Rattle.std.specs.Prelude.{◌≡◌, ℕ, Bool, true, List, length}
use Rattle.std.specs.List.{All}
use Rattle.std.specs.Option.{option_to_list}
use Rattle.item_tree.specs.declared.functions.FnId.{FnId}
use Rattle.seq_types.specs.declared.types.SeqType.{SeqType}
use Rattle.query_tree.specs.declared.bound.Slot.{Slot}
use Rattle.query_tree.specs.declared.bound.Target.{Target}
use Rattle.query_tree.specs.declared.bound.Target.TheVariants.{Built}
use Rattle.query_tree.specs.Bound.{BoundTree}
use Rattle.query_tree.specs.Compiled.{BoundTrees}
use Rattle.query_tree.specs.Plain as p
use Rattle.query_tree.specs.Plain.{PlainClauses}
use Rattle.query_tree.specs.Subtrees.{subtrees}
use Rattle.mode_planner.specs.Beside.{drivers, drives, driven_calls, stand_once}
use Rattle.mode_planner.specs.Drivers.{DriverPlan}
use Rattle.mode_planner.specs.Laws.{HasDriver}
use Rattle.mode_planner.specs.Plans.{LeafPlan, plan}
use Rattle.mode_planner.specs.Spine.{handlers}
use Rattle.meaning_laws.specs.Beside.{is_beside, variables_beside, functions_beside, flwor_of}

-- how many drivers a leaf has: one or none
abbrev pub own_drivers : LeafPlan → ℕ
own_drivers l = length (option_to_list l.driver)

-- The declarations of a query and the handlers in its spine stand beside the drivers, and a leaf
-- holds no driver but its own.
pub record DriversStandApart (ds : List DriverPlan) (m : BoundTrees) (planned : List LeafPlan)
    : Type 0 where
  pub functions : functions_beside ds m.functions ≡ true
  pub variables : variables_beside ds m.variables ≡ true
  pub handlers : All (λ t. is_beside ds t ≡ true) (handlers m.body)
  pub leaves : All (λ l. driven_calls ds (subtrees l.tree) ≡ own_drivers l) planned

-- What is beside the one driver of a leaf.
pub record DriversAreAlone (ds : List DriverPlan) : Type 0 where
  -- all, where it has none
  pub none : (t : BoundTree) → driven_calls ds (subtrees t) ≡ 0 → is_beside ds t ≡ true
  -- in a FLWOR that is driven, the clauses before and after the driver, and `return`
  pub flwor : (place at : ℕ) (clauses : PlainClauses Slot Target SeqType) (result : BoundTree)
      (d : DriverPlan) → drives ds d ≡ true → (has : HasDriver clauses d)
      → driven_calls ds (subtrees (p.tree_node place (p.flwor_form clauses at result))) ≡ 1
      → (is_beside ds (flwor_of place at has.before result) ≡ true)
      × (is_beside ds (flwor_of place at has.after result) ≡ true)
  -- a function of the language that is called is no driver, but its argument may have one
  pub argument : (place : ℕ) (id : FnId) (t : BoundTree)
      → driven_calls ds (subtrees
      (p.tree_node place (p.call_form (Built id) (p.more_trees t p.no_trees))))
      ≡ driven_calls ds (subtrees t)

pub record DriversStandOnce : Type 0 where
  pub apart : (local : Bool) (m : BoundTrees)
      → stand_once (drivers (plan local m.body)) m ≡ true
      → DriversStandApart (drivers (plan local m.body)) m (plan local m.body)
  pub alone : (ds : List DriverPlan) → DriversAreAlone ds
  -- each driver of leaves is driven
  pub own : (leaves : List LeafPlan) → All (λ d. drives (drivers leaves) d ≡ true) (drivers leaves)
