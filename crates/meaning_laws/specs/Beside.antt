-- Where the expressions of a query stand, and that those in which no call is a driver of a plan
-- come to the same where the inputs that only drivers read are left out.
use Rattle.std.specs.Prelude.{◌≡◌, ℕ, Bool, true, not, List, ◌++◌}
use Rattle.std.specs.List.{All, filter_map, list_all, list_any}
use Rattle.seq_types.specs.declared.types.SeqType.{SeqType}
use Rattle.query_tree.specs.declared.bound.Slot.{Slot}
use Rattle.query_tree.specs.declared.bound.Target.{Target}
use Rattle.query_tree.specs.Bound.{BoundTree}
use Rattle.query_tree.specs.Compiled.{BoundTrees}
use Rattle.query_tree.specs.Modules.{PlainVariable, PlainFunction}
use Rattle.query_tree.specs.Plain as p
use Rattle.query_tree.specs.Plain.{PlainClause}
use Rattle.query_tree.specs.Subtrees.{subtrees}
use Rattle.mode_planner.specs.Beside.{expressions, drivers, drives, names_beside}
use Rattle.mode_planner.specs.Drivers.{DriverPlan, call_driver}
use Rattle.mode_planner.specs.Plans.{LeafPlan}
use Rattle.query_meaning.specs.Library.{Library}
use Rattle.query_meaning.specs.Environment.{Environment}
use Rattle.query_meaning.specs.Meaning.{eval}
use Rattle.query_meaning.specs.Queries.{program_of, globals_value}
use Rattle.meaning_laws.specs.Agreement.{names_called, AgreeOn, SameFunctions, CallsTheSame}

-- ---- the expressions of a query

-- An expression is one of the query's, and so are those inside it.
pub record StandsIn (m : BoundTrees) (t : BoundTree) : Type 0 where
  pub before : List BoundTree
  pub after : List BoundTree
  pub parted : expressions m ≡ before ++ subtrees t ++ after

pub record ExpressionsStand (m : BoundTrees) : Type 0 where
  pub body : StandsIn m m.body
  pub variables : All (λ x. StandsIn m x.value) m.variables
  pub functions : All (λ f. StandsIn m f.body) m.functions
  -- each of all expressions
  pub all : All (StandsIn m) (expressions m)
  -- what stands inside one that does
  pub inside : (t : BoundTree) → StandsIn m t → All (StandsIn m) (subtrees t)

-- ---- expressions beside drivers

-- whether no call in an expression is one of these drivers
abbrev pub is_beside : List DriverPlan → BoundTree → Bool
is_beside ds t = not (list_any (drives ds) (filter_map call_driver (subtrees t)))

abbrev pub variables_beside : List DriverPlan → List (PlainVariable Slot Target SeqType) → Bool
variables_beside ds xs = list_all (λ x. is_beside ds x.value) xs

abbrev pub functions_beside : List DriverPlan → List (PlainFunction Slot Target SeqType) → Bool
functions_beside ds fs = list_all (λ f. is_beside ds f.body) fs

-- a FLWOR of these clauses, at its place and that of `return`
abbrev pub flwor_of : ℕ → ℕ → List (PlainClause Slot Target SeqType) → BoundTree
    → BoundTree
flwor_of place at cs result =
    p.tree_node place (p.flwor_form (p.clauses_of Slot Target SeqType cs) at result)

-- Where two libraries agree on the names that are read beside the drivers of a plan, and no driver
-- is a call in a declared function, each expression that is beside the drivers comes to the same.
pub record BesideTheSame (ds : List DriverPlan) (m : BoundTrees) (library other : Library)
    : Type 0 where
  pub names : (t : BoundTree) → StandsIn m t → is_beside ds t ≡ true
      → AgreeOn (names_called t) library other
  pub functions : (width : ℕ) → functions_beside ds m.functions ≡ true
      → SameFunctions (program_of width m library) (program_of width m other)
  pub calls : (width : ℕ) (t : BoundTree) → functions_beside ds m.functions ≡ true
      → StandsIn m t → is_beside ds t ≡ true
      → CallsTheSame t (program_of width m library) (program_of width m other)
  pub values : (width depth : ℕ) (t : BoundTree) (env : Environment)
      → functions_beside ds m.functions ≡ true → StandsIn m t → is_beside ds t ≡ true
      → eval (program_of width m library) depth t env ≡ eval (program_of width m other) depth t env
  pub variables : (width : ℕ) → functions_beside ds m.functions ≡ true
      → variables_beside ds m.variables ≡ true
      → globals_value width m library ≡ globals_value width m other
  -- of some clauses of a FLWOR, and of its `return`
  pub clauses : (width place at : ℕ) (before part after : List (PlainClause Slot Target SeqType))
      (result : BoundTree) → functions_beside ds m.functions ≡ true
      → StandsIn m (flwor_of place at (before ++ part ++ after) result)
      → is_beside ds (flwor_of place at part result) ≡ true
      → CallsTheSame (flwor_of place at part result) (program_of width m library)
      (program_of width m other)

-- Leaving out the inputs that only drivers read changes nothing but at the drivers.
abbrev pub NamesBesideSuffice : Type 0
NamesBesideSuffice = (leaves : List LeafPlan) (m : BoundTrees) (library other : Library)
    → AgreeOn (names_beside leaves m) library other
    → BesideTheSame (drivers leaves) m library other
