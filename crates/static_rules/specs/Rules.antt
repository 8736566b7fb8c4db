-- The static rules: which mentions of a query break them.
use Rattle.std.specs.Prelude.{ℕ, nat_le, Bool, true, false, ◌&&◌, ◌||◌, not, Option, Some, None, is_some, List, [], ◌∷◌, codes}
use Rattle.std.specs.Str.{bytes_eq}
use Rattle.item_tree.specs.declared.code.Code.{Code}
use Rattle.item_tree.specs.declared.code.Code.TheVariants.{XPST0008, XPST0017, XPST0051, XQST0034, XQST0039, XQST0049, XQST0089, XQST0094, XPDY0002, PJST0002}
use Rattle.item_tree.specs.Functions.{function_named}
use Rattle.seq_types.specs.Names.{type_named}
use Rattle.seq_types.specs.declared.types.ItemType.{ItemType}
use Rattle.seq_types.specs.declared.types.Times.{Times}
use Rattle.seq_types.specs.declared.types.Times.TheVariants.{One}
use Rattle.query_tree.specs.declared.names.TypeName.{TypeName}
use Rattle.query_tree.specs.Plain as p
use Rattle.query_tree.specs.Scopes.{is_atomic_name, is_at_most_one}
use Rattle.static_rules.specs.declared.rules.Rule.{Rule}
use Rattle.static_rules.specs.declared.rules.Rule.TheVariants.{UnboundVariable, UnknownFunction, UnknownType, UnknownCastType, FunctionTwice, ParameterTwice, VariableTwice, PositionTwice, NoStreamVariable, NoContextItem, UnnamedInput}
use Rattle.static_rules.specs.Views.{NamedTrees, has_name, has_callee, argument_count}
use Rattle.static_rules.specs.Calls.{text_of}
use Rattle.static_rules.specs.Mentions.{Mention, reads, reads_item, calls, has_type, casts_to, counts_positions, groups_by, declares_function, declares_parameter, declares_variable}

-- `json-lines`, which no one may declare
abbrev pub is_lines : List ℕ → Bool
is_lines name = bytes_eq name (codes "json-lines")

abbrev pub is_built_in : List ℕ → ℕ → Bool
is_built_in name arity = is_some (function_named name arity)

abbrev pub is_once : Times → Bool
is_once One = true
is_once _ = false

-- `empty-sequence()`
abbrev pub is_empty_sequence : TypeName → Bool
is_empty_sequence t = bytes_eq t.name (codes "empty-sequence") && t.parens && is_once t.times

abbrev pub is_atomic_type : Option ItemType → Bool
is_atomic_type None = false
is_atomic_type (Some t) = is_atomic_name t

-- whether each argument is a string that is spelled out
abbrev pub are_texts : NamedTrees → Bool
are_texts p.no_trees = true
are_texts (p.more_trees t ts) = is_some (text_of t) && are_texts ts

-- whether so many names may stand in a call of `json-lines`
abbrev pub is_name_count : ℕ → Bool
is_name_count count = nat_le 1 count && nat_le count 64

-- whether there are 1 to 64 arguments, each a string that is spelled out
abbrev pub name_inputs : NamedTrees → Bool
name_inputs arguments = is_name_count (argument_count arguments) && are_texts arguments

-- a variable that is read where nothing binds it
abbrev pub is_unbound_variable : Mention → Bool
is_unbound_variable (reads name bound) = not (has_name bound name)
is_unbound_variable _ = false

-- a call of a function that does not exist, or not with so many arguments
abbrev pub is_unknown_function : Mention → Bool
is_unknown_function (calls name arguments functions) =
    not
    (is_lines name || is_built_in name (argument_count arguments)
    || has_callee functions name (argument_count arguments))
is_unknown_function _ = false

-- a type of sequences that does not exist
abbrev pub is_unknown_type : Mention → Bool
is_unknown_type (has_type t) = not (is_empty_sequence t || is_some (type_named t.name t.parens))
is_unknown_type _ = false

-- a type that a cast cannot have: it has at most one string, integer, decimal, boolean, null,
-- date or date-time
abbrev pub is_unknown_cast_type : Mention → Bool
is_unknown_cast_type (casts_to t) =
    not (is_atomic_type (type_named t.name t.parens) && is_at_most_one t.times)
is_unknown_cast_type _ = false

-- a function that is declared twice, or is one of the language
abbrev pub is_function_twice : Mention → Bool
is_function_twice (declares_function f earlier) =
    is_lines f.name || is_built_in f.name f.arity || has_callee earlier f.name f.arity
is_function_twice _ = false

-- a parameter that equals an earlier one
abbrev pub is_parameter_twice : Mention → Bool
is_parameter_twice (declares_parameter name earlier) = has_name earlier name
is_parameter_twice _ = false

-- a variable that is declared twice
abbrev pub is_variable_twice : Mention → Bool
is_variable_twice (declares_variable name earlier) = has_name earlier name
is_variable_twice _ = false

-- a position variable that equals the variable of its `for`
abbrev pub is_position_twice : Mention → Bool
is_position_twice (counts_positions position variable) = bytes_eq position variable
is_position_twice _ = false

-- a grouping variable without an expression that is none of the stream
abbrev pub is_no_stream_variable : Mention → Bool
is_no_stream_variable (groups_by name stream) = not (has_name stream name)
is_no_stream_variable _ = false

-- a `$$` that stands for no item
abbrev pub is_no_context_item : Mention → Bool
is_no_context_item (reads_item item) = not item
is_no_context_item _ = false

-- a call of `json-lines` with other arguments than 1 to 64 strings that are spelled out
abbrev pub is_unnamed_input : Mention → Bool
is_unnamed_input (calls name arguments functions) = is_lines name && not (name_inputs arguments)
is_unnamed_input _ = false

-- all of them, in the order in which they are told at one place
abbrev pub rules : List Rule
rules =
    UnboundVariable ∷ UnknownFunction ∷ UnknownType ∷ UnknownCastType ∷ FunctionTwice
    ∷ ParameterTwice ∷ VariableTwice ∷ PositionTwice ∷ NoStreamVariable ∷ NoContextItem
    ∷ UnnamedInput ∷ []

abbrev pub rank : Rule → ℕ
rank UnboundVariable = 1
rank UnknownFunction = 2
rank UnknownType = 3
rank UnknownCastType = 4
rank FunctionTwice = 5
rank ParameterTwice = 6
rank VariableTwice = 7
rank PositionTwice = 8
rank NoStreamVariable = 9
rank NoContextItem = 10
rank UnnamedInput = 11

abbrev pub breaks : Mention → Rule → Bool
breaks m UnboundVariable = is_unbound_variable m
breaks m UnknownFunction = is_unknown_function m
breaks m UnknownType = is_unknown_type m
breaks m UnknownCastType = is_unknown_cast_type m
breaks m FunctionTwice = is_function_twice m
breaks m ParameterTwice = is_parameter_twice m
breaks m VariableTwice = is_variable_twice m
breaks m PositionTwice = is_position_twice m
breaks m NoStreamVariable = is_no_stream_variable m
breaks m NoContextItem = is_no_context_item m
breaks m UnnamedInput = is_unnamed_input m

-- the code of a refusal by the rule
abbrev pub code_of : Rule → Code
code_of UnboundVariable = XPST0008
code_of UnknownFunction = XPST0017
code_of UnknownType = XPST0051
code_of UnknownCastType = XPST0051
code_of FunctionTwice = XQST0034
code_of ParameterTwice = XQST0039
code_of VariableTwice = XQST0049
code_of PositionTwice = XQST0089
code_of NoStreamVariable = XQST0094
code_of NoContextItem = XPDY0002
code_of UnnamedInput = PJST0002
