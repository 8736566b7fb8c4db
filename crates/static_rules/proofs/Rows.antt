-- What the rules say of some queries, and how some are compiled.
use Rattle.std.proofs.Common.{◌≡◌, ℕ, zero, suc, pos, true, false, Option, Some, None, List, [], ◌∷◌, refl}
use Rattle.std.specs.Prelude.{codes}
use Rattle.item_tree.specs.declared.functions.FnId.TheVariants.{Count}
use Rattle.seq_types.specs.declared.types.SeqType.{SeqType}
use Rattle.seq_types.specs.declared.types.Times.TheVariants.{One}
use Rattle.query_tree.specs.declared.bound.Slot.{Slot}
use Rattle.query_tree.specs.declared.bound.Slot.TheVariants.{Local, Global}
use Rattle.query_tree.specs.declared.bound.Target.{Target}
use Rattle.query_tree.specs.declared.bound.Target.TheVariants.{Built, Own, Lines}
use Rattle.query_tree.specs.declared.module.Param.{Param}
use Rattle.query_tree.specs.declared.names.Placed.{Placed}
use Rattle.query_tree.specs.declared.names.TypeName.{TypeName}
use Rattle.query_tree.specs.declared.operator.CompareOp.TheVariants.{ValueGt}
use Rattle.query_tree.specs.declared.operator.SumOp.TheVariants.{Plus}
use Rattle.query_tree.specs.Plain as p
use Rattle.query_tree.specs.Plain.{Tree, Form}
use Rattle.query_tree.specs.Modules.{PlainVariable, PlainFunction}
use Rattle.query_tree.specs.Compiled.{is_compiled}
use Rattle.query_tree.specs.NamedViews.{NamedTree, NamedQuery}
use Rattle.static_rules.specs.declared.rules.Refusal.{Refusal}
use Rattle.static_rules.specs.declared.rules.Rule.{Rule}
use Rattle.static_rules.specs.declared.rules.Rule.TheVariants.{UnboundVariable, UnknownFunction, UnknownType, UnknownCastType, FunctionTwice, ParameterTwice, VariableTwice, PositionTwice, NoStreamVariable, NoContextItem, UnnamedInput}
use Rattle.static_rules.specs.Refusals.{refusal}
use Rattle.static_rules.specs.Compiling.{compiled_query, query_width}

abbrev at : ℕ → Form (List ℕ) (List ℕ) TypeName → NamedTree
at place kind = p.tree_node place kind

abbrev placed : {N : Type 0} → ℕ → N → Placed N
placed place name = record { place = place; name = name }

abbrev number : ℕ → ℕ → NamedTree
number place n = at place (p.int_form (pos n))

abbrev read : ℕ → List ℕ → NamedTree
read place name = at place (p.var_form name)

abbrev call : ℕ → List ℕ → List NamedTree → NamedTree
call place name ts = at place (p.call_form name (p.trees_of (List ℕ) (List ℕ) TypeName ts))

abbrev comma : ℕ → NamedTree → ℕ → NamedTree → NamedTree
comma place a sign b = at place (p.comma_form a (p.more_operands (p.operand_node sign b) p.no_operands))

abbrev plus : ℕ → NamedTree → ℕ → NamedTree → NamedTree
plus place a sign b = at place (p.sum_form a (p.more_terms (p.term_node Plus sign b) p.no_terms))

abbrev pair : ℕ → NamedTree → ℕ → NamedTree → NamedTree
pair place a sign b = at place (p.paren_form (p.one_tree (comma (place) a sign b)))

abbrev type : List ℕ → TypeName
type name = record { name = name; parens = false; times = One }

abbrev body : NamedTree → NamedQuery
body e = record { variables = []; functions = []; body = e }

abbrev params : List (Placed (List ℕ)) → List (Param (List ℕ) TypeName)
params [] = []
params (q ∷ qs) = record { variable = q; of = None } ∷ params qs

abbrev function : ℕ → List ℕ → List (Placed (List ℕ)) → NamedTree → PlainFunction (List ℕ) (List ℕ) TypeName
function place name qs e = record { function = placed place name; params = params qs; type = None; body = e }

abbrev variable : ℕ → List ℕ → NamedTree → PlainVariable (List ℕ) (List ℕ) TypeName
variable place name e = record { variable = placed place name; type = None; value = e }

abbrev refused : Rule → ℕ → Option Refusal
refused rule place = Some (record { place = place; rule = rule })

-- declare function count($s) { 1 }; 1
of_the_language : refusal (record { variables = []; functions = function 17 (codes "count") (placed 23 (codes "s") ∷ []) (number 29 1) ∷ []; body = number 34 1 }) ≡ refused FunctionTwice 17
of_the_language = refl

-- declare function f($a, $a) { 1 }; 1
same_parameter : refusal (record { variables = []; functions = function 17 (codes "f") (placed 19 (codes "a") ∷ placed 23 (codes "a") ∷ []) (number 29 1) ∷ []; body = number 34 1 }) ≡ refused ParameterTwice 23
same_parameter = refl

-- declare variable $v := 1; declare variable $v := 2; $v
same_variable : refusal (record { variables = variable 17 (codes "v") (number 23 1) ∷ variable 43 (codes "v") (number 49 2) ∷ []; functions = []; body = read 52 (codes "v") }) ≡ refused VariableTwice 43
same_variable = refl

-- for $x at $x in 1 return 1
same_position : refusal (body (at 0 (p.flwor_form (p.more_clauses (p.for_clause (placed 4 (codes "x")) None false (Some (placed 10 (codes "x"))) (number 16 1)) p.no_clauses) 18 (number 25 1)))) ≡ refused PositionTwice 10
same_position = refl

-- for $x in 1 group by $y return 1
no_such_stream_variable : refusal (body (at 0 (p.flwor_form (p.more_clauses (p.for_clause (placed 4 (codes "x")) None false None (number 10 1)) (p.more_clauses (p.group_clause 12 (p.more_group_vars (p.stream_group_var (placed 21 (codes "y"))) p.no_group_vars)) p.no_clauses)) 24 (number 31 1)))) ≡ refused NoStreamVariable 21
no_such_stream_variable = refl

-- 1 instance of text
no_type : refusal (body (at 0 (p.instance_form (number 0 1) 2 (placed 14 (type (codes "text")))))) ≡ refused UnknownType 14
no_type = refl

-- "1" cast as item
no_cast_type : refusal (body (at 0 (p.cast_form (at 0 (p.text_form (codes "1"))) 4 (placed 12 (type (codes "item")))))) ≡ refused UnknownCastType 12
no_cast_type = refl

-- $$
no_item : refusal (body (at 0 p.context_form)) ≡ refused NoContextItem 0
no_item = refl

-- json-lines("a" || "b")
no_input_name : refusal (body (call 0 (codes "json-lines") (at 11 (p.concat_form (at 11 (p.text_form (codes "a"))) (p.more_operands (p.operand_node 15 (at 18 (p.text_form (codes "b")))) p.no_operands)) ∷ []))) ≡ refused UnnamedInput 0
no_input_name = refl

-- 1 + $u, 2 + 3, 4 + foo(1): the variable stands before the function
least_place : refusal (body (at 0 (p.comma_form (plus 0 (number 0 1) 2 (read 4 (codes "u"))) (p.more_operands (p.operand_node 6 (plus 8 (number 8 2) 10 (number 12 3))) (p.more_operands (p.operand_node 13 (plus 15 (number 15 4) 17 (call 19 (codes "foo") (number 23 1 ∷ [])))) p.no_operands))))) ≡ refused UnboundVariable 4
least_place = refl

-- foo(1)
no_function : refusal (body (call 0 (codes "foo") (number 4 1 ∷ []))) ≡ refused UnknownFunction 0
no_function = refl

-- declare function f($x) { $x[$$ gt $v] }; declare variable $v := count((1, 2)); f(1)
abbrev declared : NamedQuery
declared = record {
  variables = variable 58 (codes "v") (call 64 (codes "count") (pair 70 (number 71 1) 72 (number 74 2) ∷ [])) ∷ [];
  functions = function 17 (codes "f") (placed 19 (codes "x") ∷ []) (at 25 (p.postfix_form (read 25 (codes "x")) (p.more_steps (p.filter_step 27 (at 28 (p.compare_form (at 28 p.context_form) ValueGt 31 (read 34 (codes "v"))))) p.no_steps))) ∷ [];
  body = call 79 (codes "f") (number 81 1 ∷ []);
}

declared_kept : refusal declared ≡ None
declared_kept = refl

abbrev bound_at : ℕ → Form Slot Target SeqType → Tree Slot Target SeqType
bound_at place kind = p.tree_node place kind

abbrev bound_read : ℕ → Slot → Tree Slot Target SeqType
bound_read place v = bound_at place (p.var_form v)

abbrev bound_number : ℕ → ℕ → Tree Slot Target SeqType
bound_number place n = bound_at place (p.int_form (pos n))

abbrev bound_call : ℕ → Target → Tree Slot Target SeqType → Tree Slot Target SeqType
bound_call place f t = bound_at place (p.call_form f (p.more_trees t p.no_trees))

abbrev bound_pair : ℕ → Tree Slot Target SeqType → ℕ → Tree Slot Target SeqType → Tree Slot Target SeqType
bound_pair place a sign b = bound_at place (p.paren_form (p.one_tree (bound_at place (p.comma_form a (p.more_operands (p.operand_node sign b) p.no_operands)))))

declared_compiled : compiled_query declared ≡ record {
  variables = record { variable = placed 58 (Global 0); type = None; value = bound_call 64 (Built Count) (bound_pair 70 (bound_number 71 1) 72 (bound_number 74 2)) } ∷ [];
  functions = record { function = placed 17 (Own 0); params = record { variable = placed 19 (Local 0); of = None } ∷ []; type = None; body = bound_at 25 (p.postfix_form (bound_read 25 (Local 0)) (p.more_steps (p.filter_step 27 (bound_at 28 (p.compare_form (bound_at 28 p.context_form) ValueGt 31 (bound_read 34 (Global 0))))) p.no_steps)) } ∷ [];
  body = bound_call 79 (Own 0) (bound_number 81 1);
}
declared_compiled = refl

declared_passes : is_compiled 1 (compiled_query declared) ≡ true
declared_passes = refl

-- for $x at $i in (1, 2) group by $k := $i, $x let $x := $k return ($x, $k)
abbrev grouped : NamedTree
grouped = at 0 (p.flwor_form
    (p.more_clauses (p.for_clause (placed 4 (codes "x")) None false (Some (placed 10 (codes "i"))) (pair 16 (number 17 1) 18 (number 20 2)))
    (p.more_clauses (p.group_clause 23 (p.more_group_vars (p.computed_group_var (placed 32 (codes "k")) (read 38 (codes "i"))) (p.more_group_vars (p.stream_group_var (placed 42 (codes "x"))) p.no_group_vars)))
    (p.more_clauses (p.let_clause (placed 49 (codes "x")) None (read 55 (codes "k"))) p.no_clauses)))
    58 (pair 65 (read 66 (codes "x")) 68 (read 70 (codes "k"))))

grouped_kept : refusal (body grouped) ≡ None
grouped_kept = refl

-- the key `$x` reads the variable of the `for`, and what is behind the `let` reads that of the `let`
grouped_compiled : compiled_query (body grouped) ≡ record {
  variables = [];
  functions = [];
  body = bound_at 0 (p.flwor_form
      (p.more_clauses (p.for_clause (placed 4 (Local 0)) None false (Some (placed 10 (Local 1))) (bound_pair 16 (bound_number 17 1) 18 (bound_number 20 2)))
      (p.more_clauses (p.group_clause 23 (p.more_group_vars (p.computed_group_var (placed 32 (Local 2)) (bound_read 38 (Local 1))) (p.more_group_vars (p.computed_group_var (placed 42 (Local 3)) (bound_read 42 (Local 0))) p.no_group_vars)))
      (p.more_clauses (p.let_clause (placed 49 (Local 4)) None (bound_read 55 (Local 2))) p.no_clauses)))
      58 (bound_pair 65 (bound_read 66 (Local 4)) 68 (bound_read 70 (Local 2))));
}
grouped_compiled = refl

grouped_passes : is_compiled 5 (compiled_query (body grouped)) ≡ true
grouped_passes = refl

-- let $x := $x return 1: a variable is not seen by its own expression
own_expression : refusal (body (at 0 (p.flwor_form (p.more_clauses (p.let_clause (placed 4 (codes "x")) None (read 10 (codes "x"))) p.no_clauses) 13 (number 20 1)))) ≡ refused UnboundVariable 10
own_expression = refl

abbrev keys : NamedTree → NamedTree
keys second = at 0 (p.flwor_form (p.more_clauses (p.for_clause (placed 4 (codes "x")) None false None (number 10 1)) (p.more_clauses (p.group_clause 12 (p.more_group_vars (p.computed_group_var (placed 21 (codes "k")) (number 27 1)) (p.more_group_vars (p.computed_group_var (placed 30 (codes "j")) second) p.no_group_vars))) p.no_clauses)) 39 (number 46 1))

-- for $x in 1 group by $k := 1, $j := $k return 1: a key sees those to its left
key_to_the_left : refusal (body (keys (read 36 (codes "k")))) ≡ None
key_to_the_left = refl

key_itself : refusal (body (keys (read 36 (codes "j")))) ≡ refused UnboundVariable 36
key_itself = refl

-- for $x in 1 group by $k := 1, $k return 1: a key to the left is no variable of the stream
no_key_of_the_clause : refusal (body (at 0 (p.flwor_form (p.more_clauses (p.for_clause (placed 4 (codes "x")) None false None (number 10 1)) (p.more_clauses (p.group_clause 12 (p.more_group_vars (p.computed_group_var (placed 21 (codes "k")) (number 27 1)) (p.more_group_vars (p.stream_group_var (placed 30 (codes "k"))) p.no_group_vars))) p.no_clauses)) 33 (number 40 1)))) ≡ refused NoStreamVariable 30
no_key_of_the_clause = refl

-- [1][[$$]], and [1][$$]
item_in_a_position : refusal (body (at 0 (p.postfix_form (at 0 (p.array_form (p.one_tree (number 1 1)))) (p.more_steps (p.member_step 3 (at 5 p.context_form)) p.no_steps)))) ≡ refused NoContextItem 5
item_in_a_position = refl

item_in_a_predicate : refusal (body (at 0 (p.postfix_form (at 0 (p.array_form (p.one_tree (number 1 1)))) (p.more_steps (p.filter_step 3 (at 4 p.context_form)) p.no_steps)))) ≡ None
item_in_a_predicate = refl

-- try { 1 } catch * { $err:code }, and then $err:code
abbrev tried : NamedTree
tried = at 0 (p.try_form (number 6 1) (p.more_catches (p.catch_node (placed 10 (codes "err:code")) None (read 20 (codes "err:code"))) p.no_catches))

code_of_an_error : refusal (body tried) ≡ None
code_of_an_error = refl

code_behind_a_handler : refusal (body (comma 0 tried 31 (read 33 (codes "err:code")))) ≡ refused UnboundVariable 33
code_behind_a_handler = refl

-- declare variable $v := f(); declare function f() { $$ }; 1[f()]
no_function_in_a_variable : refusal (record {
  variables = variable 17 (codes "v") (call 23 (codes "f") []) ∷ [];
  functions = function 45 (codes "f") [] (at 51 p.context_form) ∷ [];
  body = at 57 (p.postfix_form (number 57 1) (p.more_steps (p.filter_step 58 (call 59 (codes "f") [])) p.no_steps));
}) ≡ refused UnknownFunction 23
no_function_in_a_variable = refl

no_item_in_a_function : refusal (record {
  variables = [];
  functions = function 17 (codes "f") [] (at 23 p.context_form) ∷ [];
  body = at 29 (p.postfix_form (number 29 1) (p.more_steps (p.filter_step 30 (call 31 (codes "f") [])) p.no_steps));
}) ≡ refused NoContextItem 23
no_item_in_a_function = refl

-- 1 instance of empty-sequence()
no_items : refusal (body (at 0 (p.instance_form (number 0 1) 2 (placed 14 (record { name = codes "empty-sequence"; parens = true; times = One }))))) ≡ None
no_items = refl

-- json-lines with 0, 1, 2, 64 and 65 texts, with a text and a number, and with one in parentheses
abbrev text : ℕ → NamedTree
text place = at place (p.text_form (codes "a"))

abbrev texts : ℕ → List NamedTree
texts zero = []
texts (suc n) = text 11 ∷ texts n

abbrev lines : List NamedTree → NamedQuery
lines ts = body (call 0 (codes "json-lines") ts)

no_input_names : refusal (lines []) ≡ refused UnnamedInput 0
no_input_names = refl

one_input_name : refusal (lines (texts 1)) ≡ None
one_input_name = refl

two_input_names : refusal (lines (texts 2)) ≡ None
two_input_names = refl

two_inputs_compiled : (compiled_query (lines (texts 2))).body ≡ bound_at 0 (p.call_form (Lines (codes "a" ∷ codes "a" ∷ [])) (p.more_trees (bound_at 11 (p.text_form (codes "a"))) (p.more_trees (bound_at 11 (p.text_form (codes "a"))) p.no_trees)))
two_inputs_compiled = refl

most_input_names : refusal (lines (texts 64)) ≡ None
most_input_names = refl

too_many_input_names : refusal (lines (texts 65)) ≡ refused UnnamedInput 0
too_many_input_names = refl

no_text : refusal (lines (text 11 ∷ number 16 1 ∷ [])) ≡ refused UnnamedInput 0
no_text = refl

in_parentheses : refusal (lines (at 11 (p.paren_form (p.one_tree (text 12))) ∷ [])) ≡ refused UnnamedInput 0
in_parentheses = refl

-- declare function json-lines($a, $b) { 1 }; 1
lines_declared : refusal (record { variables = []; functions = function 17 (codes "json-lines") (placed 28 (codes "a") ∷ placed 32 (codes "b") ∷ []) (number 38 1) ∷ []; body = number 43 1 }) ≡ refused FunctionTwice 17
lines_declared = refl

-- the body of `grouped` has five bindings, and the function of `declared` one
widths : query_width (body grouped) ≡ 5
widths = refl

function_widths : query_width declared ≡ 1
function_widths = refl
