-- The compiled tree of a query that breaks no rule. It has the tree's nodes, parts and places. The
-- bindings of one declaration, or of the body, have the numbers from 0 in text order. What a rule
-- refuses has a compiled form too, which means nothing.
use Rattle.std.specs.Prelude.{◌≡◌, ℕ, ◌+◌, ◌&&◌, ◌==◌, true, max, Option, Some, None, option_map, unwrap_or, List, [], ◌∷◌, length, map, position, if◌then◌else◌}
use Rattle.std.specs.Str.{bytes_eq}
use Rattle.item_tree.specs.Functions.{function_named}
use Rattle.item_tree.specs.declared.functions.FnId.{FnId}
use Rattle.seq_types.specs.Names.{type_named}
use Rattle.seq_types.specs.declared.types.SeqType.{SeqType}
use Rattle.seq_types.specs.declared.types.SeqType.TheVariants.{Empty, Of}
use Rattle.seq_types.specs.declared.types.ItemType.TheVariants.{Item}
use Rattle.query_tree.specs.declared.bound.Slot.{Slot}
use Rattle.query_tree.specs.declared.bound.Slot.TheVariants.{Local, Global}
use Rattle.query_tree.specs.declared.bound.Target.{Target}
use Rattle.query_tree.specs.declared.bound.Target.TheVariants.{Built, Own, Lines}
use Rattle.query_tree.specs.declared.module.Param.{Param}
use Rattle.query_tree.specs.declared.names.Placed.{Placed}
use Rattle.query_tree.specs.declared.names.TypeName.{TypeName}
use Rattle.query_tree.specs.Modules.{PlainVariable, PlainFunction}
use Rattle.query_tree.specs.Plain as p
use Rattle.query_tree.specs.Plain.{Tree, Trees, Form, MaybeTree, PlainOperand, PlainOperands, PlainTerm, PlainTerms, PlainFactor, PlainFactors, PlainBind, PlainBinds, PlainCase, PlainCases, PlainTypeCase, PlainTypeCases, PlainCatch, PlainCatches, PlainPair, PlainPairs, PlainStep, PlainSteps, PlainLookup, PlainClause, PlainClauses, PlainGroupVar, PlainGroupVars, PlainOrderKey, PlainOrderKeys}
use Rattle.query_tree.specs.Scoped.{any_scope, key_scope, keys_scope, clause_scope, clauses_scope, bind_scope, binds_scope}
use Rattle.query_tree.specs.Bound.{BoundTree}
use Rattle.query_tree.specs.Compiled.{BoundTrees, is_compiled}
use Rattle.query_tree.specs.NamedViews.{NamedTree, NamedQuery}
use Rattle.static_rules.specs.Views.{NamedTrees, Callee, argument_count}
use Rattle.static_rules.specs.Mentions.{callee_of}
use Rattle.static_rules.specs.Calls.{texts_of}
use Rattle.static_rules.specs.Rules.{is_lines, is_empty_sequence}
use Rattle.static_rules.specs.Refusals.{refusal}
use Rattle.query_tree.specs.Binders

-- the variables that are bound where an expression stands, the latest first, and the declared
-- functions
pub record Names : Type 0 where
  pub variables : List (List ℕ × Slot)
  pub functions : List Callee

abbrev pub with_slot : Names → List ℕ → Slot → Names
with_slot s name slot = record s { variables = (name, slot) ∷ s.variables }

abbrev pub enter_local : Names → ℕ → List ℕ → Names
enter_local s n name = with_slot s name (Local n)

abbrev pub with_any : Names → Option (Placed (List ℕ)) → ℕ → Names
with_any s x n = any_scope enter_local s n x

abbrev pub slot_in : List (List ℕ × Slot) → List ℕ → Slot
slot_in [] name = Local 0
slot_in (b ∷ bs) name = if bytes_eq b.0 name then b.1 else slot_in bs name

abbrev pub slot_of : Names → List ℕ → Slot
slot_of s name = slot_in s.variables name

-- the declared function with this name and number of arguments
abbrev pub own_number : List Callee → List ℕ → ℕ → ℕ
own_number callees name arity =
    unwrap_or (position (λ c. bytes_eq c.name name && c.arity == arity) callees) 0

abbrev pub function_or_own : Option FnId → ℕ → Target
function_or_own (Some id) number = Built id
function_or_own None number = Own number

abbrev pub target_of : Names → List ℕ → NamedTrees → Target
target_of s name arguments =
    if is_lines name then Lines (texts_of arguments)
    else function_or_own (function_named name (argument_count arguments))
    (own_number s.functions name (argument_count arguments))

abbrev pub type_of : TypeName → SeqType
type_of t =
    if is_empty_sequence t then Empty else Of (unwrap_or (type_named t.name t.parens) Item) t.times

abbrev pub placed_type : Placed TypeName → Placed SeqType
placed_type t = record { place = t.place; name = type_of t.name }

-- the binding at this place with this number
abbrev pub binding : Placed (List ℕ) → ℕ → Placed Slot
binding x n = record { place = x.place; name = Local n }

abbrev pub any_binding : Option (Placed (List ℕ)) → ℕ → Option (Placed Slot)
any_binding x n = option_map (λ y. binding y n) x

-- the number behind the bindings of a part
abbrev pub past : {V : Type 0} → ℕ → List V → ℕ
past n bound = n + length bound

-- the names behind a key of a grouping, a clause, and a binding of a quantified expression, whose
-- own bindings begin with this number
abbrev pub after_key : Names → ℕ → PlainGroupVar (List ℕ) (List ℕ) TypeName → Names
after_key s n k = key_scope enter_local s n k

abbrev pub after_keys : Names → ℕ → PlainGroupVars (List ℕ) (List ℕ) TypeName → Names
after_keys s n ks = keys_scope enter_local past s n ks

abbrev pub after_clause : Names → ℕ → PlainClause (List ℕ) (List ℕ) TypeName → Names
after_clause s n c = clause_scope enter_local past s n c

abbrev pub after_clauses : Names → ℕ → PlainClauses (List ℕ) (List ℕ) TypeName → Names
after_clauses s n cs = clauses_scope enter_local past s n cs

abbrev pub after_bind : Names → ℕ → PlainBind (List ℕ) (List ℕ) TypeName → Names
after_bind s n b = bind_scope enter_local s n b

abbrev pub after_binds : Names → ℕ → PlainBinds (List ℕ) (List ℕ) TypeName → Names
after_binds s n bs = binds_scope enter_local past s n bs

-- the compiled tree of an expression whose bindings begin with this number, and of each part of one
abbrev mutual
  pub compiled : Names → ℕ → NamedTree → BoundTree
  compiled s n (p.tree_node place kind) = p.tree_node place (compiled_form s n kind)

  pub compiled_form : Names → ℕ → Form (List ℕ) (List ℕ) TypeName → Form Slot Target SeqType
  compiled_form s n (p.comma_form first rest) =
      p.comma_form (compiled s n first) (compiled_operands s (past n (Binders.binders first)) rest)
  compiled_form s n (p.flwor_form clauses place result) =
      p.flwor_form (compiled_clauses s n clauses) place
      (compiled (after_clauses s n clauses) (past n (Binders.clauses_binders clauses)) result)
  compiled_form s n (p.quant_form quantifier binds test) =
      p.quant_form quantifier (compiled_binds s n binds)
      (compiled (after_binds s n binds) (past n (Binders.binds_binders binds)) test)
  compiled_form s n (p.switch_form operand cases default) =
      let m = past n (Binders.binders operand) in
      p.switch_form (compiled s n operand) (compiled_cases s m cases)
      (compiled s (past m (Binders.cases_binders cases)) default)
  compiled_form s n (p.typeswitch_form operand cases variable default) =
      let m = past n (Binders.binders operand) in
      let l = past m (Binders.type_cases_binders cases) in
      p.typeswitch_form (compiled s n operand) (compiled_type_cases s m cases)
      (any_binding variable l)
      (compiled (with_any s variable l) (past l (Binders.any_name variable)) default)
  compiled_form s n (p.if_form condition when_true when_false) =
      let m = past n (Binders.binders condition) in
      p.if_form (compiled s n condition) (compiled s m when_true)
      (compiled s (past m (Binders.binders when_true)) when_false)
  compiled_form s n (p.try_form body catches) =
      p.try_form (compiled s n body) (compiled_catches s (past n (Binders.binders body)) catches)
  compiled_form s n (p.or_form first rest) =
      p.or_form (compiled s n first) (compiled_operands s (past n (Binders.binders first)) rest)
  compiled_form s n (p.and_form first rest) =
      p.and_form (compiled s n first) (compiled_operands s (past n (Binders.binders first)) rest)
  compiled_form s n (p.not_form operand) = p.not_form (compiled s n operand)
  compiled_form s n (p.compare_form left op place right) =
      p.compare_form (compiled s n left) op place (compiled s (past n (Binders.binders left)) right)
  compiled_form s n (p.concat_form first rest) =
      p.concat_form (compiled s n first) (compiled_operands s (past n (Binders.binders first)) rest)
  compiled_form s n (p.range_form left place right) =
      p.range_form (compiled s n left) place (compiled s (past n (Binders.binders left)) right)
  compiled_form s n (p.sum_form first rest) =
      p.sum_form (compiled s n first) (compiled_terms s (past n (Binders.binders first)) rest)
  compiled_form s n (p.product_form first rest) =
      p.product_form (compiled s n first) (compiled_factors s (past n (Binders.binders first)) rest)
  compiled_form s n (p.instance_form operand place t) =
      p.instance_form (compiled s n operand) place (placed_type t)
  compiled_form s n (p.treat_form operand place t) =
      p.treat_form (compiled s n operand) place (placed_type t)
  compiled_form s n (p.castable_form operand place t) =
      p.castable_form (compiled s n operand) place (placed_type t)
  compiled_form s n (p.cast_form operand place t) =
      p.cast_form (compiled s n operand) place (placed_type t)
  compiled_form s n (p.sign_form signs operand) = p.sign_form signs (compiled s n operand)
  compiled_form s n (p.map_form first rest) =
      p.map_form (compiled s n first) (compiled_operands s (past n (Binders.binders first)) rest)
  compiled_form s n (p.postfix_form primary steps) =
      p.postfix_form (compiled s n primary)
      (compiled_steps s (past n (Binders.binders primary)) steps)
  compiled_form s n (p.int_form value) = p.int_form value
  compiled_form s n (p.dec_form value) = p.dec_form value
  compiled_form s n (p.text_form value) = p.text_form value
  compiled_form s n p.true_form = p.true_form
  compiled_form s n p.false_form = p.false_form
  compiled_form s n p.null_form = p.null_form
  compiled_form s n (p.var_form variable) = p.var_form (slot_of s variable)
  compiled_form s n p.context_form = p.context_form
  compiled_form s n (p.paren_form content) = p.paren_form (compiled_content s n content)
  compiled_form s n (p.object_form pairs) = p.object_form (compiled_pairs s n pairs)
  compiled_form s n (p.merge_form content) = p.merge_form (compiled_content s n content)
  compiled_form s n (p.array_form content) = p.array_form (compiled_content s n content)
  compiled_form s n (p.call_form function arguments) =
      p.call_form (target_of s function arguments) (compiled_trees s n arguments)

  pub compiled_content : Names → ℕ → MaybeTree (List ℕ) (List ℕ) TypeName
      → MaybeTree Slot Target SeqType
  compiled_content s n p.no_tree = p.no_tree
  compiled_content s n (p.one_tree t) = p.one_tree (compiled s n t)

  pub compiled_trees : Names → ℕ → NamedTrees → Trees Slot Target SeqType
  compiled_trees s n p.no_trees = p.no_trees
  compiled_trees s n (p.more_trees t ts) =
      p.more_trees (compiled s n t) (compiled_trees s (past n (Binders.binders t)) ts)

  pub compiled_operand : Names → ℕ → PlainOperand (List ℕ) (List ℕ) TypeName
      → PlainOperand Slot Target SeqType
  compiled_operand s n (p.operand_node place value) = p.operand_node place (compiled s n value)

  pub compiled_operands : Names → ℕ → PlainOperands (List ℕ) (List ℕ) TypeName
      → PlainOperands Slot Target SeqType
  compiled_operands s n p.no_operands = p.no_operands
  compiled_operands s n (p.more_operands o os) =
      p.more_operands (compiled_operand s n o)
      (compiled_operands s (past n (Binders.operand_binders o)) os)

  pub compiled_term : Names → ℕ → PlainTerm (List ℕ) (List ℕ) TypeName
      → PlainTerm Slot Target SeqType
  compiled_term s n (p.term_node op place value) = p.term_node op place (compiled s n value)

  pub compiled_terms : Names → ℕ → PlainTerms (List ℕ) (List ℕ) TypeName
      → PlainTerms Slot Target SeqType
  compiled_terms s n p.no_terms = p.no_terms
  compiled_terms s n (p.more_terms t ts) =
      p.more_terms (compiled_term s n t) (compiled_terms s (past n (Binders.term_binders t)) ts)

  pub compiled_factor : Names → ℕ → PlainFactor (List ℕ) (List ℕ) TypeName
      → PlainFactor Slot Target SeqType
  compiled_factor s n (p.factor_node op place value) = p.factor_node op place (compiled s n value)

  pub compiled_factors : Names → ℕ → PlainFactors (List ℕ) (List ℕ) TypeName
      → PlainFactors Slot Target SeqType
  compiled_factors s n p.no_factors = p.no_factors
  compiled_factors s n (p.more_factors f fs) =
      p.more_factors (compiled_factor s n f)
      (compiled_factors s (past n (Binders.factor_binders f)) fs)

  pub compiled_bind : Names → ℕ → PlainBind (List ℕ) (List ℕ) TypeName
      → PlainBind Slot Target SeqType
  compiled_bind s n (p.bind_node variable t source) =
      p.bind_node (binding variable n) (option_map placed_type t) (compiled s (n + 1) source)

  pub compiled_binds : Names → ℕ → PlainBinds (List ℕ) (List ℕ) TypeName
      → PlainBinds Slot Target SeqType
  compiled_binds s n p.no_binds = p.no_binds
  compiled_binds s n (p.more_binds b bs) =
      p.more_binds (compiled_bind s n b)
      (compiled_binds (after_bind s n b) (past n (Binders.bind_binders b)) bs)

  pub compiled_case : Names → ℕ → PlainCase (List ℕ) (List ℕ) TypeName
      → PlainCase Slot Target SeqType
  compiled_case s n (p.case_node tests result) =
      p.case_node (compiled_trees s n tests)
      (compiled s (past n (Binders.trees_binders tests)) result)

  pub compiled_cases : Names → ℕ → PlainCases (List ℕ) (List ℕ) TypeName
      → PlainCases Slot Target SeqType
  compiled_cases s n p.no_cases = p.no_cases
  compiled_cases s n (p.more_cases c cs) =
      p.more_cases (compiled_case s n c) (compiled_cases s (past n (Binders.case_binders c)) cs)

  pub compiled_type_case : Names → ℕ → PlainTypeCase (List ℕ) (List ℕ) TypeName
      → PlainTypeCase Slot Target SeqType
  compiled_type_case s n (p.type_case_node variable types result) =
      p.type_case_node (any_binding variable n) (map placed_type types)
      (compiled (with_any s variable n) (past n (Binders.any_name variable)) result)

  pub compiled_type_cases : Names → ℕ → PlainTypeCases (List ℕ) (List ℕ) TypeName
      → PlainTypeCases Slot Target SeqType
  compiled_type_cases s n p.no_type_cases = p.no_type_cases
  compiled_type_cases s n (p.more_type_cases c cs) =
      p.more_type_cases (compiled_type_case s n c)
      (compiled_type_cases s (past n (Binders.type_case_binders c)) cs)

  pub compiled_catch : Names → ℕ → PlainCatch (List ℕ) (List ℕ) TypeName
      → PlainCatch Slot Target SeqType
  compiled_catch s n (p.catch_node error codes body) =
      p.catch_node (binding error n) codes
      (compiled (with_slot s error.name (Local n)) (n + 1) body)

  pub compiled_catches : Names → ℕ → PlainCatches (List ℕ) (List ℕ) TypeName
      → PlainCatches Slot Target SeqType
  compiled_catches s n p.no_catches = p.no_catches
  compiled_catches s n (p.more_catches c cs) =
      p.more_catches (compiled_catch s n c)
      (compiled_catches s (past n (Binders.catch_binders c)) cs)

  pub compiled_pair : Names → ℕ → PlainPair (List ℕ) (List ℕ) TypeName
      → PlainPair Slot Target SeqType
  compiled_pair s n (p.named_pair name place value) = p.named_pair name place (compiled s n value)
  compiled_pair s n (p.computed_pair key place value) =
      p.computed_pair (compiled s n key) place (compiled s (past n (Binders.binders key)) value)

  pub compiled_pairs : Names → ℕ → PlainPairs (List ℕ) (List ℕ) TypeName
      → PlainPairs Slot Target SeqType
  compiled_pairs s n p.no_pairs = p.no_pairs
  compiled_pairs s n (p.more_pairs q qs) =
      p.more_pairs (compiled_pair s n q) (compiled_pairs s (past n (Binders.pair_binders q)) qs)

  pub compiled_step : Names → ℕ → PlainStep (List ℕ) (List ℕ) TypeName
      → PlainStep Slot Target SeqType
  compiled_step s n (p.members_step place) = p.members_step place
  compiled_step s n (p.member_step place position) = p.member_step place (compiled s n position)
  compiled_step s n (p.filter_step place test) = p.filter_step place (compiled s n test)
  compiled_step s n (p.field_step place key) = p.field_step place (compiled_lookup s n key)

  pub compiled_steps : Names → ℕ → PlainSteps (List ℕ) (List ℕ) TypeName
      → PlainSteps Slot Target SeqType
  compiled_steps s n p.no_steps = p.no_steps
  compiled_steps s n (p.more_steps t ts) =
      p.more_steps (compiled_step s n t) (compiled_steps s (past n (Binders.step_binders t)) ts)

  pub compiled_lookup : Names → ℕ → PlainLookup (List ℕ) (List ℕ) TypeName
      → PlainLookup Slot Target SeqType
  compiled_lookup s n (p.name_lookup name) = p.name_lookup name
  compiled_lookup s n (p.text_lookup value) = p.text_lookup value
  compiled_lookup s n (p.var_lookup variable) =
      p.var_lookup (record { place = variable.place; name = slot_of s variable.name })
  compiled_lookup s n (p.context_lookup place) = p.context_lookup place
  compiled_lookup s n (p.computed_lookup value) = p.computed_lookup (compiled s n value)

  pub compiled_clause : Names → ℕ → PlainClause (List ℕ) (List ℕ) TypeName
      → PlainClause Slot Target SeqType
  compiled_clause s n (p.for_clause variable t allowing_empty position source) =
      p.for_clause (binding variable n) (option_map placed_type t) allowing_empty
      (any_binding position (n + 1)) (compiled s (past (n + 1) (Binders.any_name position)) source)
  compiled_clause s n (p.let_clause variable t value) =
      p.let_clause (binding variable n) (option_map placed_type t) (compiled s (n + 1) value)
  compiled_clause s n (p.where_clause place test) = p.where_clause place (compiled s n test)
  compiled_clause s n (p.group_clause place keys) =
      p.group_clause place (compiled_group_vars s s n keys)
  compiled_clause s n (p.order_clause place stable keys) =
      p.order_clause place stable (compiled_order_keys s n keys)
  compiled_clause s n (p.count_clause place variable) = p.count_clause place (binding variable n)

  pub compiled_clauses : Names → ℕ → PlainClauses (List ℕ) (List ℕ) TypeName
      → PlainClauses Slot Target SeqType
  compiled_clauses s n p.no_clauses = p.no_clauses
  compiled_clauses s n (p.more_clauses c cs) =
      p.more_clauses (compiled_clause s n c)
      (compiled_clauses (after_clause s n c) (past n (Binders.clause_binders c)) cs)

  -- a key without an expression gets as its expression the variable of the stream, as it was
  -- before the clause
  pub compiled_group_var : Names → Names → ℕ → PlainGroupVar (List ℕ) (List ℕ) TypeName
      → PlainGroupVar Slot Target SeqType
  compiled_group_var stream s n (p.stream_group_var variable) =
      p.computed_group_var (binding variable n)
      (p.tree_node variable.place (p.var_form (slot_of stream variable.name)))
  compiled_group_var stream s n (p.computed_group_var variable value) =
      p.computed_group_var (binding variable n) (compiled s (n + 1) value)

  pub compiled_group_vars : Names → Names → ℕ → PlainGroupVars (List ℕ) (List ℕ) TypeName
      → PlainGroupVars Slot Target SeqType
  compiled_group_vars stream s n p.no_group_vars = p.no_group_vars
  compiled_group_vars stream s n (p.more_group_vars k ks) =
      p.more_group_vars (compiled_group_var stream s n k)
      (compiled_group_vars stream (after_key s n k) (past n (Binders.group_var_binders k)) ks)

  pub compiled_order_key : Names → ℕ → PlainOrderKey (List ℕ) (List ℕ) TypeName
      → PlainOrderKey Slot Target SeqType
  compiled_order_key s n (p.order_key_node value descending empty_greatest) =
      p.order_key_node (compiled s n value) descending empty_greatest

  pub compiled_order_keys : Names → ℕ → PlainOrderKeys (List ℕ) (List ℕ) TypeName
      → PlainOrderKeys Slot Target SeqType
  compiled_order_keys s n p.no_order_keys = p.no_order_keys
  compiled_order_keys s n (p.more_order_keys k ks) =
      p.more_order_keys (compiled_order_key s n k)
      (compiled_order_keys s (past n (Binders.order_key_binders k)) ks)

-- the declared variables, where these are declared before them, and the first has this number
abbrev pub globals_after : List (List ℕ × Slot) → ℕ
    → List (PlainVariable (List ℕ) (List ℕ) TypeName) → List (List ℕ × Slot)
globals_after names number [] = names
globals_after names number (x ∷ xs) =
    globals_after ((x.variable.name, Global number) ∷ names) (number + 1) xs

abbrev pub compiled_variables : List (List ℕ × Slot) → ℕ
    → List (PlainVariable (List ℕ) (List ℕ) TypeName) → List (PlainVariable Slot Target SeqType)
compiled_variables names number [] = []
compiled_variables names number (x ∷ xs) =
    record {
      variable = record { place = x.variable.place; name = Global number };
      type = option_map placed_type x.type;
      value = compiled (record { variables = names; functions = [] }) 0 x.value;
    }
    ∷ compiled_variables ((x.variable.name, Global number) ∷ names) (number + 1) xs

abbrev pub compiled_params : ℕ → List (Param (List ℕ) TypeName) → List (Param Slot SeqType)
compiled_params n [] = []
compiled_params n (q ∷ qs) =
    record { variable = binding q.variable n; of = option_map placed_type q.of }
    ∷ compiled_params (n + 1) qs

abbrev pub with_params : Names → ℕ → List (Param (List ℕ) TypeName) → Names
with_params s n [] = s
with_params s n (q ∷ qs) = with_params (with_slot s q.variable.name (Local n)) (n + 1) qs

abbrev pub compiled_functions : Names → ℕ → List (PlainFunction (List ℕ) (List ℕ) TypeName)
    → List (PlainFunction Slot Target SeqType)
compiled_functions s number [] = []
compiled_functions s number (f ∷ fs) =
    record {
      function = record { place = f.function.place; name = Own number };
      params = compiled_params 0 f.params;
      type = option_map placed_type f.type;
      body = compiled (with_params s 0 f.params) (length f.params) f.body;
    }
    ∷ compiled_functions s (number + 1) fs

-- what the body sees: all declarations
abbrev pub body_names : NamedQuery → Names
body_names q =
    record { variables = globals_after [] 0 q.variables; functions = map callee_of q.functions }

abbrev pub compiled_query : NamedQuery → BoundTrees
compiled_query q = record {
  variables = compiled_variables [] 0 q.variables;
  functions = compiled_functions (body_names q) 0 q.functions;
  body = compiled (body_names q) 0 q.body;
}

-- how many bindings a declared variable and a declared function have
abbrev pub variable_width : PlainVariable (List ℕ) (List ℕ) TypeName → ℕ
variable_width x = length (Binders.binders x.value)

abbrev pub function_width : PlainFunction (List ℕ) (List ℕ) TypeName → ℕ
function_width f = length f.params + length (Binders.binders f.body)

abbrev pub greatest : List ℕ → ℕ
greatest [] = 0
greatest (n ∷ ns) = max n (greatest ns)

-- how many slots a frame needs: as many as the declaration, or the body, with the most bindings has
abbrev pub query_width : NamedQuery → ℕ
query_width q =
    max (greatest (map variable_width q.variables))
    (max (greatest (map function_width q.functions)) (length (Binders.binders q.body)))

-- a query that breaks no rule compiles to a tree that may stand in a compiled query
abbrev pub AcceptedQueriesPass : Type 0
AcceptedQueriesPass =
    (q : NamedQuery) → refusal q ≡ None → is_compiled (query_width q) (compiled_query q) ≡ true
