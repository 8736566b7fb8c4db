-- The declarations of a query, and the states of the walk behind them.
use Rattle.std.specs.Prelude.{ℕ, false, None, option_map, List, [], ◌∷◌, ◌++◌, length, map, take, reverse}
use Rattle.query_tree.specs.declared.bound.Slot.{Slot}
use Rattle.query_tree.specs.declared.bound.Slot.TheVariants.{Local, Global}
use Rattle.query_tree.specs.declared.bound.Target.{Target}
use Rattle.query_tree.specs.declared.bound.Target.TheVariants.{Own}
use Rattle.query_tree.specs.declared.module.Param.{Param}
use Rattle.query_tree.specs.declared.names.TypeName.{TypeName}
use Rattle.query_tree.specs.Binders.{params_binders}
use Rattle.query_tree.specs.Modules.{PlainVariable, PlainFunction}
use Rattle.seq_types.specs.declared.types.SeqType.{SeqType}
use Rattle.static_rules.specs.Views.{View, Callee, seeing}
use Rattle.static_rules.specs.Mentions.{MentionAt, mention_at, mentions, type_mentions, declares_variable, declares_parameter, declares_function, variables_mentions, params_mentions, functions_mentions, callee_of, after_params}
use Rattle.static_rules.specs.Compiling.{Names, with_slot, binding, placed_type, compiled, compiled_params, with_params, globals_after, variable_width, function_width}
use Rattle.static_rules.specs.Walks.{State, view_of, bound_names, sooner, first_of}
use Rattle.static_rules.specs.Openings.{entered}
use Rattle.static_rules.specs.Behind.{stream_of}

-- what one declaration mentions
abbrev pub variable_mentions : View → PlainVariable (List ℕ) (List ℕ) TypeName → List MentionAt
variable_mentions v x =
    mention_at x.variable.place (declares_variable x.variable.name v.variables)
    ∷ type_mentions x.type ++ mentions v x.value

abbrev pub param_mentions : List (List ℕ) → Param (List ℕ) TypeName → List MentionAt
param_mentions earlier q =
    mention_at q.variable.place (declares_parameter q.variable.name earlier) ∷ type_mentions q.of

abbrev pub function_mentions : View → List Callee → PlainFunction (List ℕ) (List ℕ) TypeName
    → List MentionAt
function_mentions v earlier f =
    mention_at f.function.place (declares_function (callee_of f) earlier)
    ∷ params_mentions [] f.params ++ type_mentions f.type
    ++ mentions (seeing v (after_params v.variables f.params)) f.body

-- the compiled tree of one declaration
abbrev pub compiled_variable : Names → ℕ → PlainVariable (List ℕ) (List ℕ) TypeName
    → PlainVariable Slot Target SeqType
compiled_variable s number x = record {
  variable = record { place = x.variable.place; name = Global number };
  type = option_map placed_type x.type;
  value = compiled s 0 x.value;
}

abbrev pub compiled_param : ℕ → Param (List ℕ) TypeName → Param Slot SeqType
compiled_param n q = record { variable = binding q.variable n; of = option_map placed_type q.of }

abbrev pub compiled_function : Names → ℕ → PlainFunction (List ℕ) (List ℕ) TypeName
    → PlainFunction Slot Target SeqType
compiled_function s number f = record {
  function = record { place = f.function.place; name = Own number };
  params = compiled_params 0 f.params;
  type = option_map placed_type f.type;
  body = compiled (with_params s 0 f.params) (length f.params) f.body;
}

-- the state before a query
unfoldable pub started : State
started = record { names = record { variables = []; functions = [] }; number = 0; first = None }

-- the state where a declaration begins: its bindings have the numbers from 0
unfoldable pub begun : State → State
begun s = record s { number = 0 }

-- the state where a declared variable is bound besides
unfoldable pub bound_global : State → List ℕ → ℕ → State
bound_global s name number = record s { names = with_slot s.names name (Global number) }

abbrev pub with_functions : Names → List Callee → Names
with_functions s functions = record s { functions = functions }

-- the state where these are the declared functions
unfoldable pub seeing_functions : State → List Callee → State
seeing_functions s functions = record s { names = with_functions s.names functions }

-- the state behind declarations with these mentions, where so many numbers are taken and these
-- names are in scope
unfoldable pub declared : State → List MentionAt → ℕ → Names → State
declared s ms number names =
    record { names = names; number = number; first = sooner s.first (first_of ms) }

abbrev pub behind_variable : State → ℕ → PlainVariable (List ℕ) (List ℕ) TypeName → State
behind_variable s number x =
    declared s (variable_mentions (view_of false s.names) x) (variable_width x)
    (with_slot s.names x.variable.name (Global number))

-- the first of these variables has this number
abbrev pub behind_variables : State → ℕ → List (PlainVariable (List ℕ) (List ℕ) TypeName) → State
behind_variables s number xs =
    declared s (variables_mentions (bound_names s.names.variables) xs) 0
    (record s.names { variables = globals_after s.names.variables number xs })

-- the states behind the parameters of a function before which so many variables were bound
abbrev pub behind_param : State → ℕ → Param (List ℕ) TypeName → State
behind_param s base q =
    entered s (param_mentions (stream_of base s.names) q) (q.variable.name ∷ [])
    (with_slot s.names q.variable.name (Local s.number))

abbrev pub behind_params : State → ℕ → List (Param (List ℕ) TypeName) → State
behind_params s base qs =
    entered s (params_mentions (stream_of base s.names) qs) (params_binders qs)
    (with_params s.names s.number qs)

-- the function has this number, so those with lower numbers stand before it
abbrev pub earlier_functions : Names → ℕ → List Callee
earlier_functions s number = reverse (take number s.functions)

abbrev pub behind_function : State → ℕ → PlainFunction (List ℕ) (List ℕ) TypeName → State
behind_function s number f =
    declared s (function_mentions (view_of false s.names) (earlier_functions s.names number) f)
    (function_width f) s.names

abbrev pub behind_functions : State → List (PlainFunction (List ℕ) (List ℕ) TypeName) → State
behind_functions s fs =
    let names = with_functions s.names (map callee_of fs) in
    declared s (functions_mentions (view_of false names) [] fs) 0 names
