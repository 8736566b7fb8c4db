-- How deep a tree is nested: the greatest number of forms in it of which each holds the next one.
-- The forms that nest are a FLWOR, a quantifier, a switch, a typeswitch, an if and a try,
-- parentheses, an object, a merge, an array and a call, a step with an expression in brackets,
-- and a look-up in parentheses. An operator adds nothing, and a step doesn't hold the expression
-- before it.
use Rattle.std.specs.Prelude.{ℕ, ◌+◌, max, List, [], ◌∷◌}
use Rattle.query_tree.specs.Modules.{PlainVariable, PlainFunction, PlainModule}
use Rattle.query_tree.specs.Plain as p
use Rattle.query_tree.specs.Plain.{Tree, Trees, Form, MaybeTree, PlainOperand, PlainOperands, PlainTerm, PlainTerms, PlainFactor, PlainFactors, PlainBind, PlainBinds, PlainCase, PlainCases, PlainTypeCase, PlainTypeCases, PlainCatch, PlainCatches, PlainPair, PlainPairs, PlainStep, PlainSteps, PlainLookup, PlainClause, PlainClauses, PlainGroupVar, PlainGroupVars, PlainOrderKey, PlainOrderKeys}

abbrev mutual
  pub nesting : {V F T : Type 0} → Tree V F T → ℕ
  nesting (p.tree_node place kind) = form_nesting kind

  pub form_nesting : {V F T : Type 0} → Form V F T → ℕ
  form_nesting (p.comma_form first rest) = max (nesting first) (operands_nesting rest)
  form_nesting (p.flwor_form clauses place result) =
      max (clauses_nesting clauses) (nesting result) + 1
  form_nesting (p.quant_form quantifier binds test) = max (binds_nesting binds) (nesting test) + 1
  form_nesting (p.switch_form operand cases default) =
      max (nesting operand) (max (cases_nesting cases) (nesting default)) + 1
  form_nesting (p.typeswitch_form operand cases variable default) =
      max (nesting operand) (max (type_cases_nesting cases) (nesting default)) + 1
  form_nesting (p.if_form condition when_true when_false) =
      max (nesting condition) (max (nesting when_true) (nesting when_false)) + 1
  form_nesting (p.try_form body catches) = max (nesting body) (catches_nesting catches) + 1
  form_nesting (p.or_form first rest) = max (nesting first) (operands_nesting rest)
  form_nesting (p.and_form first rest) = max (nesting first) (operands_nesting rest)
  form_nesting (p.not_form operand) = nesting operand
  form_nesting (p.compare_form left op place right) = max (nesting left) (nesting right)
  form_nesting (p.concat_form first rest) = max (nesting first) (operands_nesting rest)
  form_nesting (p.range_form left place right) = max (nesting left) (nesting right)
  form_nesting (p.sum_form first rest) = max (nesting first) (terms_nesting rest)
  form_nesting (p.product_form first rest) = max (nesting first) (factors_nesting rest)
  form_nesting (p.instance_form operand place t) = nesting operand
  form_nesting (p.treat_form operand place t) = nesting operand
  form_nesting (p.castable_form operand place t) = nesting operand
  form_nesting (p.cast_form operand place t) = nesting operand
  form_nesting (p.sign_form signs operand) = nesting operand
  form_nesting (p.map_form first rest) = max (nesting first) (operands_nesting rest)
  form_nesting (p.postfix_form primary steps) = max (nesting primary) (steps_nesting steps)
  form_nesting (p.int_form value) = 0
  form_nesting (p.dec_form value) = 0
  form_nesting (p.text_form value) = 0
  form_nesting p.true_form = 0
  form_nesting p.false_form = 0
  form_nesting p.null_form = 0
  form_nesting (p.var_form variable) = 0
  form_nesting p.context_form = 0
  form_nesting (p.paren_form content) = content_nesting content + 1
  form_nesting (p.object_form pairs) = pairs_nesting pairs + 1
  form_nesting (p.merge_form content) = content_nesting content + 1
  form_nesting (p.array_form content) = content_nesting content + 1
  form_nesting (p.call_form function arguments) = trees_nesting arguments + 1

  pub content_nesting : {V F T : Type 0} → MaybeTree V F T → ℕ
  content_nesting p.no_tree = 0
  content_nesting (p.one_tree t) = nesting t

  pub trees_nesting : {V F T : Type 0} → Trees V F T → ℕ
  trees_nesting p.no_trees = 0
  trees_nesting (p.more_trees t ts) = max (nesting t) (trees_nesting ts)

  pub operand_nesting : {V F T : Type 0} → PlainOperand V F T → ℕ
  operand_nesting (p.operand_node place value) = nesting value

  pub operands_nesting : {V F T : Type 0} → PlainOperands V F T → ℕ
  operands_nesting p.no_operands = 0
  operands_nesting (p.more_operands o os) = max (operand_nesting o) (operands_nesting os)

  pub term_nesting : {V F T : Type 0} → PlainTerm V F T → ℕ
  term_nesting (p.term_node op place value) = nesting value

  pub terms_nesting : {V F T : Type 0} → PlainTerms V F T → ℕ
  terms_nesting p.no_terms = 0
  terms_nesting (p.more_terms t ts) = max (term_nesting t) (terms_nesting ts)

  pub factor_nesting : {V F T : Type 0} → PlainFactor V F T → ℕ
  factor_nesting (p.factor_node op place value) = nesting value

  pub factors_nesting : {V F T : Type 0} → PlainFactors V F T → ℕ
  factors_nesting p.no_factors = 0
  factors_nesting (p.more_factors f fs) = max (factor_nesting f) (factors_nesting fs)

  pub bind_nesting : {V F T : Type 0} → PlainBind V F T → ℕ
  bind_nesting (p.bind_node variable t source) = nesting source

  pub binds_nesting : {V F T : Type 0} → PlainBinds V F T → ℕ
  binds_nesting p.no_binds = 0
  binds_nesting (p.more_binds b bs) = max (bind_nesting b) (binds_nesting bs)

  pub case_nesting : {V F T : Type 0} → PlainCase V F T → ℕ
  case_nesting (p.case_node tests result) = max (trees_nesting tests) (nesting result)

  pub cases_nesting : {V F T : Type 0} → PlainCases V F T → ℕ
  cases_nesting p.no_cases = 0
  cases_nesting (p.more_cases c cs) = max (case_nesting c) (cases_nesting cs)

  pub type_case_nesting : {V F T : Type 0} → PlainTypeCase V F T → ℕ
  type_case_nesting (p.type_case_node variable types result) = nesting result

  pub type_cases_nesting : {V F T : Type 0} → PlainTypeCases V F T → ℕ
  type_cases_nesting p.no_type_cases = 0
  type_cases_nesting (p.more_type_cases c cs) = max (type_case_nesting c) (type_cases_nesting cs)

  pub catch_nesting : {V F T : Type 0} → PlainCatch V F T → ℕ
  catch_nesting (p.catch_node error codes body) = nesting body

  pub catches_nesting : {V F T : Type 0} → PlainCatches V F T → ℕ
  catches_nesting p.no_catches = 0
  catches_nesting (p.more_catches c cs) = max (catch_nesting c) (catches_nesting cs)

  pub pair_nesting : {V F T : Type 0} → PlainPair V F T → ℕ
  pair_nesting (p.named_pair name place value) = nesting value
  pair_nesting (p.computed_pair key place value) = max (nesting key) (nesting value)

  pub pairs_nesting : {V F T : Type 0} → PlainPairs V F T → ℕ
  pairs_nesting p.no_pairs = 0
  pairs_nesting (p.more_pairs q qs) = max (pair_nesting q) (pairs_nesting qs)

  pub step_nesting : {V F T : Type 0} → PlainStep V F T → ℕ
  step_nesting (p.members_step place) = 0
  step_nesting (p.member_step place position) = nesting position + 1
  step_nesting (p.filter_step place test) = nesting test + 1
  step_nesting (p.field_step place key) = lookup_nesting key

  pub steps_nesting : {V F T : Type 0} → PlainSteps V F T → ℕ
  steps_nesting p.no_steps = 0
  steps_nesting (p.more_steps s ss) = max (step_nesting s) (steps_nesting ss)

  pub lookup_nesting : {V F T : Type 0} → PlainLookup V F T → ℕ
  lookup_nesting (p.name_lookup name) = 0
  lookup_nesting (p.text_lookup value) = 0
  lookup_nesting (p.var_lookup variable) = 0
  lookup_nesting (p.context_lookup place) = 0
  lookup_nesting (p.computed_lookup value) = nesting value + 1

  pub clause_nesting : {V F T : Type 0} → PlainClause V F T → ℕ
  clause_nesting (p.for_clause variable t allowing_empty position source) = nesting source
  clause_nesting (p.let_clause variable t value) = nesting value
  clause_nesting (p.where_clause place test) = nesting test
  clause_nesting (p.group_clause place keys) = group_vars_nesting keys
  clause_nesting (p.order_clause place stable keys) = order_keys_nesting keys
  clause_nesting (p.count_clause place variable) = 0

  pub clauses_nesting : {V F T : Type 0} → PlainClauses V F T → ℕ
  clauses_nesting p.no_clauses = 0
  clauses_nesting (p.more_clauses c cs) = max (clause_nesting c) (clauses_nesting cs)

  pub group_var_nesting : {V F T : Type 0} → PlainGroupVar V F T → ℕ
  group_var_nesting (p.stream_group_var variable) = 0
  group_var_nesting (p.computed_group_var variable value) = nesting value

  pub group_vars_nesting : {V F T : Type 0} → PlainGroupVars V F T → ℕ
  group_vars_nesting p.no_group_vars = 0
  group_vars_nesting (p.more_group_vars k ks) = max (group_var_nesting k) (group_vars_nesting ks)

  pub order_key_nesting : {V F T : Type 0} → PlainOrderKey V F T → ℕ
  order_key_nesting (p.order_key_node value descending empty_greatest) = nesting value

  pub order_keys_nesting : {V F T : Type 0} → PlainOrderKeys V F T → ℕ
  order_keys_nesting p.no_order_keys = 0
  order_keys_nesting (p.more_order_keys k ks) = max (order_key_nesting k) (order_keys_nesting ks)

-- the greatest number that the elements of a list have; 0 where there is none
abbrev pub greatest : {A : Type 0} → (A → ℕ) → List A → ℕ
greatest depth [] = 0
greatest depth (x ∷ xs) = max (depth x) (greatest depth xs)

abbrev pub variable_nesting : {V F T : Type 0} → PlainVariable V F T → ℕ
variable_nesting v = nesting v.value

abbrev pub function_nesting : {V F T : Type 0} → PlainFunction V F T → ℕ
function_nesting f = nesting f.body

-- how deep the most deeply nested of a module's expressions is nested
abbrev pub module_nesting : {V F T : Type 0} → PlainModule V F T → ℕ
module_nesting m =
    let variables = greatest variable_nesting m.variables in
    let functions = greatest function_nesting m.functions in
    max variables (max functions (nesting m.body))
