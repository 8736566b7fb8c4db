-- Which compiled trees pass the test, and which don't.
use Rattle.std.proofs.Common.{◌≡◌, ℕ, pos, Bool, true, false, Some, None, List, [], ◌∷◌, refl}
use Rattle.std.specs.Prelude.{codes}
use Rattle.item_tree.specs.declared.functions.FnId.TheVariants.{Count, Concat}
use Rattle.seq_types.specs.declared.types.SeqType.{SeqType}
use Rattle.seq_types.specs.declared.types.SeqType.TheVariants.{Empty, Of}
use Rattle.seq_types.specs.declared.types.ItemType.TheVariants.{Integer, Item}
use Rattle.seq_types.specs.declared.types.Times.TheVariants.{One, Optional, Many}
use Rattle.query_tree.specs.declared.bound.Slot.{Slot}
use Rattle.query_tree.specs.declared.bound.Slot.TheVariants.{Local, Global}
use Rattle.query_tree.specs.declared.bound.Target.{Target}
use Rattle.query_tree.specs.declared.bound.Target.TheVariants.{Built, Own, Lines}
use Rattle.query_tree.specs.declared.names.Placed.{Placed}
use Rattle.query_tree.specs.declared.operator.Quantifier.TheVariants.{Every}
use Rattle.query_tree.specs.Plain as p
use Rattle.query_tree.specs.Plain.{Form, PlainClauses, Trees}
use Rattle.query_tree.specs.Bound.{BoundTree}
use Rattle.query_tree.specs.Compiled.{BoundTrees, is_compiled}

abbrev at : Form Slot Target SeqType → BoundTree
at kind = p.tree_node 0 kind

abbrev named : {N : Type 0} → N → Placed N
named x = record { place = 0; name = x }

abbrev one : BoundTree
one = at (p.int_form (pos 1))

abbrev read : Slot → BoundTree
read v = at (p.var_form v)

abbrev item : BoundTree
item = at p.context_form

-- `let $x := value return result`
abbrev bind : Slot → BoundTree → BoundTree → BoundTree
bind v value result = at (p.flwor_form (p.more_clauses (p.let_clause (named v) None value) p.no_clauses) 0 result)

-- `for $x at $i in source return result`
abbrev each : Slot → Slot → BoundTree → BoundTree → BoundTree
each v i source result = at (p.flwor_form (p.more_clauses (p.for_clause (named v) None false (Some (named i)) source) p.no_clauses) 0 result)

abbrev call : Target → List BoundTree → BoundTree
call f ts = at (p.call_form f (p.trees_of Slot Target SeqType ts))

abbrev plus : BoundTree → BoundTree → BoundTree
plus a b = at (p.comma_form a (p.more_operands (p.operand_node 0 b) p.no_operands))

abbrev over : BoundTree → BoundTree → BoundTree
over a b = at (p.map_form a (p.more_operands (p.operand_node 0 b) p.no_operands))

abbrev step : BoundTree → p.PlainStep Slot Target SeqType → BoundTree
step a s = at (p.postfix_form a (p.more_steps s p.no_steps))

abbrev cast : SeqType → BoundTree
cast t = at (p.cast_form one 0 (named t))

abbrev body : BoundTree → BoundTrees
body t = record { variables = []; functions = []; body = t }

abbrev passes : ℕ → BoundTree → Bool
passes width t = is_compiled width (body t)

-- a slot is bound before it is read, and below the width
bound : passes 1 (bind (Local 0) one (read (Local 0))) ≡ true
bound = refl

unbound : passes 2 (bind (Local 0) one (read (Local 1))) ≡ false
unbound = refl

not_yet : passes 1 (bind (Local 0) (read (Local 0)) one) ≡ false
not_yet = refl

no_more : passes 1 (plus (bind (Local 0) one one) (read (Local 0))) ≡ false
no_more = refl

narrow : passes 0 (bind (Local 0) one one) ≡ false
narrow = refl

position : passes 2 (each (Local 0) (Local 1) one (read (Local 1))) ≡ true
position = refl

bound_globally : passes 1 (bind (Global 0) one one) ≡ false
bound_globally = refl

-- each binding has a number of its own, also where none sees the other
one_number : passes 2 (plus (bind (Local 0) one one) (bind (Local 0) one one)) ≡ false
one_number = refl

own_numbers : passes 2 (plus (bind (Local 0) one one) (bind (Local 1) one one)) ≡ true
own_numbers = refl

-- `every $x in 1, $y in $x satisfies $y`
quantified : passes 2 (at (p.quant_form Every (p.more_binds (p.bind_node (named (Local 0)) None one) (p.more_binds (p.bind_node (named (Local 1)) None (read (Local 0))) p.no_binds)) (read (Local 1)))) ≡ true
quantified = refl

-- `try { $err:code } catch * { $err:code }`: the handler alone sees the code
handler : passes 1 (at (p.try_form one (p.more_catches (p.catch_node (named (Local 0)) None (read (Local 0))) p.no_catches))) ≡ true
handler = refl

not_tried : passes 1 (at (p.try_form (read (Local 0)) (p.more_catches (p.catch_node (named (Local 0)) None one) p.no_catches))) ≡ false
not_tried = refl

-- `typeswitch (1) case $x as .. return inside default $y return otherwise`: each sees its own variable
abbrev chosen : BoundTree → BoundTree → BoundTree
chosen inside otherwise = at (p.typeswitch_form one (p.more_type_cases (p.type_case_node (Some (named (Local 0))) [] inside) p.no_type_cases) (Some (named (Local 1))) otherwise)

own_case : passes 2 (chosen (read (Local 0)) (read (Local 1))) ≡ true
own_case = refl

other_case : passes 2 (chosen one (read (Local 0))) ≡ false
other_case = refl

default_in_case : passes 2 (chosen (read (Local 1)) one) ≡ false
default_in_case = refl

-- a key of a grouping has an expression
grouped : passes 1 (at (p.flwor_form (p.more_clauses (p.group_clause 0 (p.more_group_vars (p.computed_group_var (named (Local 0)) one) p.no_group_vars)) p.no_clauses) 0 (read (Local 0)))) ≡ true
grouped = refl

no_expression : passes 1 (at (p.flwor_form (p.more_clauses (p.group_clause 0 (p.more_group_vars (p.stream_group_var (named (Local 0))) p.no_group_vars)) p.no_clauses) 0 one)) ≡ false
no_expression = refl

-- `group by $k := first, $l := second return 1`: a key sees the keys to its left
abbrev two_keys : BoundTree → BoundTree → BoundTree
two_keys first second = at (p.flwor_form (p.more_clauses (p.group_clause 0 (p.more_group_vars (p.computed_group_var (named (Local 0)) first) (p.more_group_vars (p.computed_group_var (named (Local 1)) second) p.no_group_vars))) p.no_clauses) 0 one)

left_key : passes 2 (two_keys one (read (Local 0))) ≡ true
left_key = refl

right_key : passes 2 (two_keys (read (Local 1)) one) ≡ false
right_key = refl

-- `$$` stands in a predicate or to the right of `!`
no_item : passes 0 item ≡ false
no_item = refl

predicate : passes 0 (step one (p.filter_step 0 item)) ≡ true
predicate = refl

array_position : passes 0 (step one (p.member_step 0 item)) ≡ false
array_position = refl

looked_up : passes 0 (step one (p.field_step 0 (p.context_lookup 0))) ≡ false
looked_up = refl

looked_up_inside : passes 0 (step one (p.filter_step 0 (step one (p.field_step 0 (p.context_lookup 0))))) ≡ true
looked_up_inside = refl

right_side : passes 0 (over one item) ≡ true
right_side = refl

left_side : passes 0 (over item one) ≡ false
left_side = refl

-- a call has as many arguments as its function takes
counted : passes 0 (call (Built Count) (one ∷ [])) ≡ true
counted = refl

too_many : passes 0 (call (Built Count) (one ∷ one ∷ [])) ≡ false
too_many = refl

any_number : passes 0 (call (Built Concat) (one ∷ one ∷ one ∷ [])) ≡ true
any_number = refl

no_input : passes 0 (call (Lines (codes "a" ∷ [])) []) ≡ false
no_input = refl

one_input : passes 0 (call (Lines (codes "a" ∷ [])) (one ∷ [])) ≡ true
one_input = refl

one_name : passes 0 (call (Lines (codes "a" ∷ [])) (one ∷ one ∷ [])) ≡ false
one_name = refl

two_inputs : passes 0 (call (Lines (codes "a" ∷ codes "a" ∷ [])) (one ∷ one ∷ [])) ≡ true
two_inputs = refl

undeclared : passes 0 (call (Own 0) []) ≡ false
undeclared = refl

-- the types of casts
optional_integer : passes 0 (cast (Of Integer Optional)) ≡ true
optional_integer = refl

integers : passes 0 (cast (Of Integer Many)) ≡ false
integers = refl

any_item : passes 0 (cast (Of Item One)) ≡ false
any_item = refl

no_type : passes 0 (cast Empty) ≡ false
no_type = refl

castable : passes 0 (at (p.castable_form one 0 (named (Of Integer One)))) ≡ true
castable = refl

castable_to_any : passes 0 (at (p.castable_form one 0 (named (Of Item One)))) ≡ false
castable_to_any = refl

-- `declare variable $v0 := value; declare variable $v1 := other; body`
abbrev two_variables : BoundTree → BoundTree → BoundTree → BoundTrees
two_variables value other result = record {
  variables = record { variable = named (Global 0); type = None; value = value } ∷ record { variable = named (Global 1); type = None; value = other } ∷ [];
  functions = [];
  body = result;
}

earlier : is_compiled 0 (two_variables one (read (Global 0)) (read (Global 1))) ≡ true
earlier = refl

itself : is_compiled 0 (two_variables one (read (Global 1)) one) ≡ false
itself = refl

later : is_compiled 0 (two_variables (read (Global 1)) one one) ≡ false
later = refl

-- each declared variable has a frame of its own
own_frames : is_compiled 1 (two_variables (bind (Local 0) one one) (bind (Local 0) one one) one) ≡ true
own_frames = refl

-- `declare variable $v := value; declare function f($x) { body }; result`
abbrev one_function : BoundTree → BoundTree → BoundTree → BoundTrees
one_function value inside result = record {
  variables = record { variable = named (Global 0); type = None; value = value } ∷ [];
  functions = record { function = named (Own 0); params = record { variable = named (Local 0); of = None } ∷ []; type = None; body = inside } ∷ [];
  body = result;
}

recursive : is_compiled 1 (one_function one (call (Own 0) (read (Local 0) ∷ [])) (call (Own 0) (read (Global 0) ∷ []))) ≡ true
recursive = refl

too_few : is_compiled 1 (one_function one one (call (Own 0) [])) ≡ false
too_few = refl

variable_calls : is_compiled 1 (one_function (call (Own 0) (one ∷ [])) one one) ≡ false
variable_calls = refl

parameter_outside : is_compiled 1 (one_function one one (read (Local 0))) ≡ false
parameter_outside = refl

parameter_twice : is_compiled 1 (one_function one (bind (Local 0) one one) one) ≡ false
parameter_twice = refl

item_in_function : is_compiled 1 (one_function one item (step one (p.filter_step 0 (call (Own 0) (one ∷ []))))) ≡ false
item_in_function = refl
