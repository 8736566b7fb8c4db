-- Laws of plans.
use Rattle.std.specs.Prelude.{◌≡◌, ℕ, ◌+◌, ◌-◌, Bool, true, false, ◌||◌, Option, None, Some, is_some, List, [], ◌∷◌, ◌++◌, length, map}
use Rattle.std.specs.List.{All, flat_map, list_any, range_with_len}
use Rattle.std.specs.List.Sorted.{IsPermutation}
use Rattle.std.specs.Str.{bytes_eq}
use Rattle.seq_types.specs.declared.types.SeqType.{SeqType}
use Rattle.query_tree.specs.declared.bound.Slot.{Slot}
use Rattle.query_tree.specs.declared.bound.Target.{Target}
use Rattle.query_tree.specs.declared.bound.Target.TheVariants.{Lines}
use Rattle.query_tree.specs.declared.names.Placed.{Placed}
use Rattle.query_tree.specs.Plain as p
use Rattle.query_tree.specs.Plain.{PlainClause, PlainClauses, Trees}
use Rattle.query_tree.specs.Bound.{BoundTree}
use Rattle.query_tree.specs.Compiled.{BoundTrees}
use Rattle.query_tree.specs.Inputs.{input_names}
use Rattle.query_tree.specs.Subtrees.{subtrees}
use Rattle.mode_planner.specs.declared.plan.End.{End}
use Rattle.mode_planner.specs.declared.plan.Mode.TheVariants.{Local}
use Rattle.mode_planner.specs.declared.plan.Stage.{Stage}
use Rattle.mode_planner.specs.Spine.{passed, leaves, handlers}
use Rattle.mode_planner.specs.Drivers.{DriverPlan, is_let, clauses_driver}
use Rattle.mode_planner.specs.Clauses.{clause_end}
use Rattle.mode_planner.specs.Plans.{Driven, LeafPlan, driven, leaf_plan}
use Rattle.mode_planner.specs.Beside.{drivers, input_calls, calls_beside, names_beside}

-- ---- where the expressions of a body stand

-- Each expression is passed through, or is a leaf or stands inside one, or is a handler of a `try`
-- that is passed through or stands inside one. It is so in one of these ways, and of one leaf or
-- handler.
abbrev pub ExpressionsStandOnce : Type 0
ExpressionsStandOnce = (body : BoundTree) → IsPermutation (subtrees body)
    (passed body ++ flat_map subtrees (leaves body) ++ flat_map subtrees (handlers body))

-- ---- which FLWORs have a driver

-- Only `let`s stand before a `for` that has no `allowing empty` and goes directly over a call of
-- `json-lines`; that call is the driver.
pub record HasDriver (clauses : PlainClauses Slot Target SeqType) (d : DriverPlan) : Type 0 where
  pub before : List (PlainClause Slot Target SeqType)
  pub variable : Placed Slot
  pub type : Option (Placed SeqType)
  pub at : Option (Placed Slot)
  pub arguments : Trees Slot Target SeqType
  pub after : List (PlainClause Slot Target SeqType)
  pub lets : All (λ c. is_let c ≡ true) before
  pub parted : clauses ≡ p.clauses_of Slot Target SeqType (before
      ++ p.for_clause variable type false at
      (p.tree_node d.place (p.call_form (Lines d.names) arguments)) ∷ after)
  pub counted : d.lets ≡ length before
  pub position : d.position ≡ is_some at

pub record DriversStandFirst : Type 0 where
  pub found : (clauses : PlainClauses Slot Target SeqType) (d : DriverPlan)
      → clauses_driver 0 clauses ≡ Some d → HasDriver clauses d
  pub all : (clauses : PlainClauses Slot Target SeqType) (d : DriverPlan)
      → HasDriver clauses d → clauses_driver 0 clauses ≡ Some d

-- ---- what stages cover

abbrev pub how_many : PlainClauses Slot Target SeqType → ℕ
how_many p.no_clauses = 0
how_many (p.more_clauses c cs) = how_many cs + 1

abbrev pub clauses_in : BoundTree → PlainClauses Slot Target SeqType
clauses_in (p.tree_node place (p.flwor_form clauses at result)) = clauses
clauses_in _ = p.no_clauses

-- that of `return`, or the one step of a call
abbrev pub last_step : BoundTree → ℕ
last_step (p.tree_node place (p.flwor_form clauses at result)) = how_many clauses + 1
last_step _ = 0

abbrev pub steps : Stage → List ℕ
steps s = range_with_len s.first (s.last + 1 - s.first)

-- the clauses from this number on that are gathered, by their numbers
abbrev pub and_end : ℕ → Option End → List (ℕ × End) → List (ℕ × End)
and_end number None ends = ends
and_end number (Some end) ends = (number, end) ∷ ends

abbrev pub ends_from : ℕ → PlainClauses Slot Target SeqType → List (ℕ × End)
ends_from number p.no_clauses = []
ends_from number (p.more_clauses c cs) = and_end number (clause_end c) (ends_from (number + 1) cs)

-- Each step from the reading of the lines to the last is in one stage, in order. A stage ends at
-- each gathered clause and at the last step, and at no other.
pub record IsCovered (end : End) (t : BoundTree) (x : Driven) : Type 0 where
  pub covered : flat_map steps x.stages
      ≡ range_with_len x.driver.lets (last_step t + 1 - x.driver.lets)
  pub ends : map (λ s. (s.last, s.end)) x.stages
      ≡ ends_from 1 (clauses_in t) ++ (last_step t, end) ∷ []

abbrev pub StagesCoverSteps : Type 0
StagesCoverSteps = (end : End) (t : BoundTree) (x : Driven) → driven end t ≡ Some x
    → IsCovered end t x

-- ---- where nothing is to run over pieces

pub record IsLocal (t : BoundTree) : Type 0 where
  pub lines : All (λ l. l.mode ≡ Local) (leaf_plan true t).lines
  pub stages : (leaf_plan true t).stages ≡ []
  pub driver : (leaf_plan true t).driver ≡ None

abbrev pub LocalPlansStayLocal : Type 0
LocalPlansStayLocal = (t : BoundTree) → IsLocal t

-- ---- which inputs are read beside the drivers

abbrev pub is_among : List (List ℕ) → List ℕ → Bool
is_among names name = list_any (λ n. bytes_eq n name) names

abbrev pub one_reads : List DriverPlan → List ℕ → Bool
one_reads calls name = list_any (λ c. is_among c.names name) calls

-- Each input that a query may read is read by a driver or beside the drivers, and beside them just
-- those are read that a call reads which is no driver.
pub record NamesAreRead (leaves : List LeafPlan) (m : BoundTrees) : Type 0 where
  pub all : (name : List ℕ) → is_among (input_names m) name ≡ true
      → (one_reads (drivers leaves) name || is_among (names_beside leaves m) name) ≡ true
  pub beside : (name : List ℕ) → is_among (names_beside leaves m) name
      ≡ one_reads (calls_beside (drivers leaves) (input_calls m)) name
