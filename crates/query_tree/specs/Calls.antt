-- The calls of a tree and of a query, with their places, in text order.
use Rattle.std.specs.Prelude.{ℕ, nat_lt, Option, None, Some, List, [], ◌∷◌, ◌++◌, map, if◌then◌else◌}
use Rattle.std.specs.List.{filter_map, flat_map}
use Rattle.query_tree.specs.declared.names.Placed.{Placed}
use Rattle.query_tree.specs.Modules.{PlainVariable, PlainFunction, PlainModule}
use Rattle.query_tree.specs.Plain as p
use Rattle.query_tree.specs.Plain.{Tree, Form}
use Rattle.query_tree.specs.Subtrees.{subtrees}

abbrev pub form_call : {V F T : Type 0} → ℕ → Form V F T → Option (Placed F)
form_call place (p.call_form function arguments) = Some (record { place = place; name = function })
form_call place _ = None

-- the call that a tree is
abbrev pub own_call : {V F T : Type 0} → Tree V F T → Option (Placed F)
own_call (p.tree_node place kind) = form_call place kind

-- a call stands before those in its arguments
abbrev pub calls : {V F T : Type 0} → Tree V F T → List (Placed F)
calls t = filter_map own_call (subtrees t)

-- ---- the expressions of a query in text order

-- the functions that are declared before this place, and those behind them
abbrev pub functions_before : {V F T : Type 0} → ℕ → List (PlainFunction V F T)
    → List (PlainFunction V F T)
functions_before place [] = []
functions_before place (f ∷ fs) =
    if nat_lt f.function.place place then f ∷ functions_before place fs else []

abbrev pub functions_behind : {V F T : Type 0} → ℕ → List (PlainFunction V F T)
    → List (PlainFunction V F T)
functions_behind place [] = []
functions_behind place (f ∷ fs) =
    if nat_lt f.function.place place then functions_behind place fs else f ∷ fs

abbrev pub bodies : {V F T : Type 0} → List (PlainFunction V F T) → List (Tree V F T)
bodies fs = map (λ f. f.body) fs

-- The expressions of declarations. Which of a variable and a function stands first is told by the
-- places of their names.
abbrev pub declared_trees : {V F T : Type 0} → List (PlainVariable V F T)
    → List (PlainFunction V F T) → List (Tree V F T)
declared_trees [] fs = bodies fs
declared_trees (x ∷ xs) fs =
    bodies (functions_before x.variable.place fs)
    ++ x.value ∷ declared_trees xs (functions_behind x.variable.place fs)

-- the body stands behind all declarations
abbrev pub module_trees : {V F T : Type 0} → PlainModule V F T → List (Tree V F T)
module_trees m = declared_trees m.variables m.functions ++ m.body ∷ []

abbrev pub module_calls : {V F T : Type 0} → PlainModule V F T → List (Placed F)
module_calls m = flat_map calls (module_trees m)
