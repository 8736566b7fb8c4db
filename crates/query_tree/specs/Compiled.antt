-- What holds of a compiled query.
use Rattle.std.specs.Prelude.{◌≡◌, ℕ, ◌+◌, ◌==◌, nat_lt, Bool, true, false, ◌&&◌, not, List, [], ◌∷◌, ◌++◌, length, map, slice_get, Some}
use Rattle.std.specs.List.{list_all, list_any}
use Rattle.seq_types.specs.declared.types.SeqType.{SeqType}
use Rattle.query_tree.specs.declared.bound.Slot.{Slot}
use Rattle.query_tree.specs.declared.bound.Slot.TheVariants.{Local, Global}
use Rattle.query_tree.specs.declared.bound.Target.{Target}
use Rattle.query_tree.specs.declared.bound.Target.TheVariants.{Built, Own, Lines}
use Rattle.query_tree.specs.declared.module.Module.{Module}
use Rattle.query_tree.specs.declared.module.Param.{Param}
use Rattle.query_tree.specs.Modules.{PlainModule, PlainVariable, PlainFunction, module_of}
use Rattle.query_tree.specs.Scopes.{Locals, these, below, Scope, may_bind, with_slot}
use Rattle.query_tree.specs.Bound.{is_bound}
use Rattle.query_tree.specs.Binders.{params_binders}
use Rattle.query_tree.specs.Bindings.{numbers_of, bindings}

-- the plain value of a compiled tree
abbrev pub BoundTrees : Type 0
BoundTrees = PlainModule Slot Target SeqType

abbrev pub bound_trees : Module Slot Target SeqType → BoundTrees
bound_trees = module_of Slot Target SeqType

abbrev pub is_global : ℕ → Slot → Bool
is_global number (Global n) = n == number
is_global number (Local n) = false

abbrev pub is_own : ℕ → Target → Bool
is_own number (Own n) = n == number
is_own number (Built id) = false
is_own number (Lines names) = false

-- what a declared variable sees: the variables before it, and no declared function
abbrev pub variable_scope : Locals → ℕ → Scope
variable_scope locals number =
    record { locals = locals; globals = number; functions = []; item = false }

-- what the body sees: all declarations
abbrev pub body_scope : Locals → BoundTrees → Scope
body_scope locals m = record {
  locals = locals;
  globals = length m.variables;
  functions = map (λ f. length f.params) m.functions;
  item = false;
}

abbrev pub after_params : Scope → List (Param Slot SeqType) → Scope
after_params s [] = s
after_params s (q ∷ qs) = after_params (with_slot s q.variable.name) qs

abbrev pub params_bound : Scope → List (Param Slot SeqType) → Bool
params_bound s [] = true
params_bound s (q ∷ qs) =
    may_bind s q.variable.name && params_bound (with_slot s q.variable.name) qs

-- whether the declared variables have the numbers from this one on, and their expressions are bound
abbrev pub variables_bound : Locals → ℕ → List (PlainVariable Slot Target SeqType) → Bool
variables_bound locals number [] = true
variables_bound locals number (x ∷ xs) =
    is_global number x.variable.name && is_bound (variable_scope locals number) x.value
    && variables_bound locals (number + 1) xs

-- the same of the declared functions, whose bodies see their parameters too
abbrev pub functions_bound : Scope → ℕ → List (PlainFunction Slot Target SeqType) → Bool
functions_bound s number [] = true
functions_bound s number (f ∷ fs) =
    is_own number f.function.name && params_bound s f.params
    && is_bound (after_params s f.params) f.body && functions_bound s (number + 1) fs

abbrev pub module_bound : Locals → BoundTrees → Bool
module_bound locals m =
    variables_bound locals 0 m.variables && functions_bound (body_scope locals m) 0 m.functions
    && is_bound (body_scope locals m) m.body

abbrev pub all_differ : List ℕ → Bool
all_differ [] = true
all_differ (n ∷ ns) = not (list_any (λ m. m == n) ns) && all_differ ns

-- whether bindings have numbers of their own, all below the width
abbrev pub are_apart : ℕ → List ℕ → Bool
are_apart width ns = list_all (λ n. nat_lt n width) ns && all_differ ns

abbrev pub params_bindings : List (Param Slot SeqType) → List ℕ
params_bindings qs = numbers_of (params_binders qs)

-- whether in each declaration, and in the body, the bindings have numbers of their own
abbrev pub module_apart : ℕ → BoundTrees → Bool
module_apart width m =
    list_all (λ x. are_apart width (bindings x.value)) m.variables
    && list_all (λ f. are_apart width (params_bindings f.params ++ bindings f.body)) m.functions
    && are_apart width (bindings m.body)

-- whether the tree may stand in a compiled query whose frames have this width
abbrev pub is_compiled : ℕ → BoundTrees → Bool
is_compiled width m = module_bound (these []) m && module_apart width m

-- that all expressions are bound over frames of this width, in which every slot may be read, and
-- that the bindings of each declaration have slots of their own
pub record IsFramed (width : ℕ) (m : BoundTrees) : Type 0 where
  pub variables : (i : ℕ) (x : PlainVariable Slot Target SeqType) → slice_get m.variables i ≡ Some x
      → is_bound (variable_scope (below width) i) x.value ≡ true
  pub params : (i : ℕ) (f : PlainFunction Slot Target SeqType) → slice_get m.functions i ≡ Some f
      → params_bound (body_scope (below width) m) f.params ≡ true
  pub functions : (i : ℕ) (f : PlainFunction Slot Target SeqType) → slice_get m.functions i ≡ Some f
      → is_bound (body_scope (below width) m) f.body ≡ true
  pub body : is_bound (body_scope (below width) m) m.body ≡ true
  pub apart : module_apart width m ≡ true

-- a compiled query: its tree and the width of its frames
pub record CompiledTree : Type 0 where
  pub tree : Module Slot Target SeqType
  pub width : ℕ
