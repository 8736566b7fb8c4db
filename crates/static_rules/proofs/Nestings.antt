-- A compiled expression is nested as the expression that was read.
use Rattle.std.proofs.Common.{◌≡◌, ℕ, ◌+◌, max, List, [], refl, ap, ◌∙◌}
use Rattle.query_tree.specs.declared.bound.Slot.TheVariants.{Local}
use Rattle.query_tree.specs.declared.names.TypeName.{TypeName}
use Rattle.query_tree.specs.Binders
use Rattle.query_tree.specs.Nesting as nests
use Rattle.query_tree.specs.Plain as p
use Rattle.query_tree.specs.Plain.{Form, MaybeTree, PlainOperand, PlainOperands, PlainTerm, PlainTerms, PlainFactor, PlainFactors, PlainBind, PlainBinds, PlainCase, PlainCases, PlainTypeCase, PlainTypeCases, PlainCatch, PlainCatches, PlainPair, PlainPairs, PlainStep, PlainSteps, PlainLookup, PlainClause, PlainClauses, PlainGroupVar, PlainGroupVars, PlainOrderKey, PlainOrderKeys}
use Rattle.query_tree.specs.NamedViews.{NamedTree}
use Rattle.static_rules.specs.Views.{NamedTrees}
use Rattle.static_rules.specs.Laws.{CompilingKeepsNesting}
use Rattle.static_rules.specs.Compiling.{Names, with_slot, with_any, body_names, past, after_key, after_clause, after_clauses, after_bind, after_binds, compiled, compiled_form, compiled_content, compiled_trees, compiled_operand, compiled_operands, compiled_term, compiled_terms, compiled_factor, compiled_factors, compiled_bind, compiled_binds, compiled_case, compiled_cases, compiled_type_case, compiled_type_cases, compiled_catch, compiled_catches, compiled_pair, compiled_pairs, compiled_step, compiled_steps, compiled_lookup, compiled_clause, compiled_clauses, compiled_group_var, compiled_group_vars, compiled_order_key, compiled_order_keys}
use Rattle.static_rules.proofs.KeptDeclarations.{variables-kept, functions-kept}

pub more : {a b : ℕ} → a ≡ b → a + 1 ≡ b + 1
more e = ap (λ k. k + 1) e

pub two : {a b c d : ℕ} → a ≡ b → c ≡ d → max a c ≡ max b d
two {a = a} {d = d} e f = ap (max a) f ∙ ap (λ k. max k d) e

three : {a b c d g h : ℕ} → a ≡ b → c ≡ d → g ≡ h → max a (max c g) ≡ max b (max d h)
three e f k = two e (two f k)

mutual
  pub tree-nested : (s : Names) (n : ℕ) (x : NamedTree) → nests.nesting (compiled s n x) ≡ nests.nesting x
  tree-nested s n (p.tree_node place kind) = form-nested s n kind

  form-nested : (s : Names) (n : ℕ) (x : Form (List ℕ) (List ℕ) TypeName) → nests.form_nesting (compiled_form s n x) ≡ nests.form_nesting x
  form-nested s n (p.comma_form first rest) = two (tree-nested s n first) (operands-nested s (past n (Binders.binders first)) rest)
  form-nested s n (p.flwor_form clauses place result) = more (two (clauses-nested s n clauses) (tree-nested (after_clauses s n clauses) (past n (Binders.clauses_binders clauses)) result))
  form-nested s n (p.quant_form quantifier binds test) = more (two (binds-nested s n binds) (tree-nested (after_binds s n binds) (past n (Binders.binds_binders binds)) test))
  form-nested s n (p.switch_form operand cases default) = more (three (tree-nested s n operand) (cases-nested s (past n (Binders.binders operand)) cases) (tree-nested s (past (past n (Binders.binders operand)) (Binders.cases_binders cases)) default))
  form-nested s n (p.typeswitch_form operand cases variable default) =
      let m = past n (Binders.binders operand) in
      let l = past m (Binders.type_cases_binders cases) in
      more (three (tree-nested s n operand) (type_cases-nested s m cases) (tree-nested (with_any s variable l) (past l (Binders.any_name variable)) default))
  form-nested s n (p.if_form condition when_true when_false) = more (three (tree-nested s n condition) (tree-nested s (past n (Binders.binders condition)) when_true) (tree-nested s (past (past n (Binders.binders condition)) (Binders.binders when_true)) when_false))
  form-nested s n (p.try_form body catches) = more (two (tree-nested s n body) (catches-nested s (past n (Binders.binders body)) catches))
  form-nested s n (p.or_form first rest) = two (tree-nested s n first) (operands-nested s (past n (Binders.binders first)) rest)
  form-nested s n (p.and_form first rest) = two (tree-nested s n first) (operands-nested s (past n (Binders.binders first)) rest)
  form-nested s n (p.not_form operand) = tree-nested s n operand
  form-nested s n (p.compare_form left op place right) = two (tree-nested s n left) (tree-nested s (past n (Binders.binders left)) right)
  form-nested s n (p.concat_form first rest) = two (tree-nested s n first) (operands-nested s (past n (Binders.binders first)) rest)
  form-nested s n (p.range_form left place right) = two (tree-nested s n left) (tree-nested s (past n (Binders.binders left)) right)
  form-nested s n (p.sum_form first rest) = two (tree-nested s n first) (terms-nested s (past n (Binders.binders first)) rest)
  form-nested s n (p.product_form first rest) = two (tree-nested s n first) (factors-nested s (past n (Binders.binders first)) rest)
  form-nested s n (p.instance_form operand place t) = tree-nested s n operand
  form-nested s n (p.treat_form operand place t) = tree-nested s n operand
  form-nested s n (p.castable_form operand place t) = tree-nested s n operand
  form-nested s n (p.cast_form operand place t) = tree-nested s n operand
  form-nested s n (p.sign_form signs operand) = tree-nested s n operand
  form-nested s n (p.map_form first rest) = two (tree-nested s n first) (operands-nested s (past n (Binders.binders first)) rest)
  form-nested s n (p.postfix_form primary steps) = two (tree-nested s n primary) (steps-nested s (past n (Binders.binders primary)) steps)
  form-nested s n (p.int_form value) = refl
  form-nested s n (p.dec_form value) = refl
  form-nested s n (p.text_form value) = refl
  form-nested s n p.true_form = refl
  form-nested s n p.false_form = refl
  form-nested s n p.null_form = refl
  form-nested s n (p.var_form variable) = refl
  form-nested s n p.context_form = refl
  form-nested s n (p.paren_form content) = more (content-nested s n content)
  form-nested s n (p.object_form pairs) = more (pairs-nested s n pairs)
  form-nested s n (p.merge_form content) = more (content-nested s n content)
  form-nested s n (p.array_form content) = more (content-nested s n content)
  form-nested s n (p.call_form function arguments) = more (trees-nested s n arguments)

  content-nested : (s : Names) (n : ℕ) (x : MaybeTree (List ℕ) (List ℕ) TypeName) → nests.content_nesting (compiled_content s n x) ≡ nests.content_nesting x
  content-nested s n p.no_tree = refl
  content-nested s n (p.one_tree t) = tree-nested s n t

  trees-nested : (s : Names) (n : ℕ) (x : NamedTrees) → nests.trees_nesting (compiled_trees s n x) ≡ nests.trees_nesting x
  trees-nested s n p.no_trees = refl
  trees-nested s n (p.more_trees x xs) = two (tree-nested s n x) (trees-nested s (past n (Binders.binders x)) xs)

  operand-nested : (s : Names) (n : ℕ) (x : PlainOperand (List ℕ) (List ℕ) TypeName) → nests.operand_nesting (compiled_operand s n x) ≡ nests.operand_nesting x
  operand-nested s n (p.operand_node place value) = tree-nested s n value

  operands-nested : (s : Names) (n : ℕ) (x : PlainOperands (List ℕ) (List ℕ) TypeName) → nests.operands_nesting (compiled_operands s n x) ≡ nests.operands_nesting x
  operands-nested s n p.no_operands = refl
  operands-nested s n (p.more_operands x xs) = two (operand-nested s n x) (operands-nested s (past n (Binders.operand_binders x)) xs)

  term-nested : (s : Names) (n : ℕ) (x : PlainTerm (List ℕ) (List ℕ) TypeName) → nests.term_nesting (compiled_term s n x) ≡ nests.term_nesting x
  term-nested s n (p.term_node op place value) = tree-nested s n value

  terms-nested : (s : Names) (n : ℕ) (x : PlainTerms (List ℕ) (List ℕ) TypeName) → nests.terms_nesting (compiled_terms s n x) ≡ nests.terms_nesting x
  terms-nested s n p.no_terms = refl
  terms-nested s n (p.more_terms x xs) = two (term-nested s n x) (terms-nested s (past n (Binders.term_binders x)) xs)

  factor-nested : (s : Names) (n : ℕ) (x : PlainFactor (List ℕ) (List ℕ) TypeName) → nests.factor_nesting (compiled_factor s n x) ≡ nests.factor_nesting x
  factor-nested s n (p.factor_node op place value) = tree-nested s n value

  factors-nested : (s : Names) (n : ℕ) (x : PlainFactors (List ℕ) (List ℕ) TypeName) → nests.factors_nesting (compiled_factors s n x) ≡ nests.factors_nesting x
  factors-nested s n p.no_factors = refl
  factors-nested s n (p.more_factors x xs) = two (factor-nested s n x) (factors-nested s (past n (Binders.factor_binders x)) xs)

  bind-nested : (s : Names) (n : ℕ) (x : PlainBind (List ℕ) (List ℕ) TypeName) → nests.bind_nesting (compiled_bind s n x) ≡ nests.bind_nesting x
  bind-nested s n (p.bind_node variable t source) = tree-nested s (n + 1) source

  binds-nested : (s : Names) (n : ℕ) (x : PlainBinds (List ℕ) (List ℕ) TypeName) → nests.binds_nesting (compiled_binds s n x) ≡ nests.binds_nesting x
  binds-nested s n p.no_binds = refl
  binds-nested s n (p.more_binds x xs) = two (bind-nested s n x) (binds-nested (after_bind s n x) (past n (Binders.bind_binders x)) xs)

  case-nested : (s : Names) (n : ℕ) (x : PlainCase (List ℕ) (List ℕ) TypeName) → nests.case_nesting (compiled_case s n x) ≡ nests.case_nesting x
  case-nested s n (p.case_node tests result) = two (trees-nested s n tests) (tree-nested s (past n (Binders.trees_binders tests)) result)

  cases-nested : (s : Names) (n : ℕ) (x : PlainCases (List ℕ) (List ℕ) TypeName) → nests.cases_nesting (compiled_cases s n x) ≡ nests.cases_nesting x
  cases-nested s n p.no_cases = refl
  cases-nested s n (p.more_cases x xs) = two (case-nested s n x) (cases-nested s (past n (Binders.case_binders x)) xs)

  type_case-nested : (s : Names) (n : ℕ) (x : PlainTypeCase (List ℕ) (List ℕ) TypeName) → nests.type_case_nesting (compiled_type_case s n x) ≡ nests.type_case_nesting x
  type_case-nested s n (p.type_case_node variable types result) = tree-nested (with_any s variable n) (past n (Binders.any_name variable)) result

  type_cases-nested : (s : Names) (n : ℕ) (x : PlainTypeCases (List ℕ) (List ℕ) TypeName) → nests.type_cases_nesting (compiled_type_cases s n x) ≡ nests.type_cases_nesting x
  type_cases-nested s n p.no_type_cases = refl
  type_cases-nested s n (p.more_type_cases x xs) = two (type_case-nested s n x) (type_cases-nested s (past n (Binders.type_case_binders x)) xs)

  catch-nested : (s : Names) (n : ℕ) (x : PlainCatch (List ℕ) (List ℕ) TypeName) → nests.catch_nesting (compiled_catch s n x) ≡ nests.catch_nesting x
  catch-nested s n (p.catch_node error codes body) = tree-nested (with_slot s error.name (Local n)) (n + 1) body

  catches-nested : (s : Names) (n : ℕ) (x : PlainCatches (List ℕ) (List ℕ) TypeName) → nests.catches_nesting (compiled_catches s n x) ≡ nests.catches_nesting x
  catches-nested s n p.no_catches = refl
  catches-nested s n (p.more_catches x xs) = two (catch-nested s n x) (catches-nested s (past n (Binders.catch_binders x)) xs)

  pair-nested : (s : Names) (n : ℕ) (x : PlainPair (List ℕ) (List ℕ) TypeName) → nests.pair_nesting (compiled_pair s n x) ≡ nests.pair_nesting x
  pair-nested s n (p.named_pair name place value) = tree-nested s n value
  pair-nested s n (p.computed_pair key place value) = two (tree-nested s n key) (tree-nested s (past n (Binders.binders key)) value)

  pairs-nested : (s : Names) (n : ℕ) (x : PlainPairs (List ℕ) (List ℕ) TypeName) → nests.pairs_nesting (compiled_pairs s n x) ≡ nests.pairs_nesting x
  pairs-nested s n p.no_pairs = refl
  pairs-nested s n (p.more_pairs x xs) = two (pair-nested s n x) (pairs-nested s (past n (Binders.pair_binders x)) xs)

  step-nested : (s : Names) (n : ℕ) (x : PlainStep (List ℕ) (List ℕ) TypeName) → nests.step_nesting (compiled_step s n x) ≡ nests.step_nesting x
  step-nested s n (p.members_step place) = refl
  step-nested s n (p.member_step place position) = more (tree-nested s n position)
  step-nested s n (p.filter_step place test) = more (tree-nested s n test)
  step-nested s n (p.field_step place key) = lookup-nested s n key

  steps-nested : (s : Names) (n : ℕ) (x : PlainSteps (List ℕ) (List ℕ) TypeName) → nests.steps_nesting (compiled_steps s n x) ≡ nests.steps_nesting x
  steps-nested s n p.no_steps = refl
  steps-nested s n (p.more_steps x xs) = two (step-nested s n x) (steps-nested s (past n (Binders.step_binders x)) xs)

  lookup-nested : (s : Names) (n : ℕ) (x : PlainLookup (List ℕ) (List ℕ) TypeName) → nests.lookup_nesting (compiled_lookup s n x) ≡ nests.lookup_nesting x
  lookup-nested s n (p.name_lookup name) = refl
  lookup-nested s n (p.text_lookup value) = refl
  lookup-nested s n (p.var_lookup variable) = refl
  lookup-nested s n (p.context_lookup place) = refl
  lookup-nested s n (p.computed_lookup value) = more (tree-nested s n value)

  clause-nested : (s : Names) (n : ℕ) (x : PlainClause (List ℕ) (List ℕ) TypeName) → nests.clause_nesting (compiled_clause s n x) ≡ nests.clause_nesting x
  clause-nested s n (p.for_clause variable t allowing_empty position source) = tree-nested s (past (n + 1) (Binders.any_name position)) source
  clause-nested s n (p.let_clause variable t value) = tree-nested s (n + 1) value
  clause-nested s n (p.where_clause place test) = tree-nested s n test
  clause-nested s n (p.group_clause place keys) = group_vars-nested s s n keys
  clause-nested s n (p.order_clause place stable keys) = order_keys-nested s n keys
  clause-nested s n (p.count_clause place variable) = refl

  clauses-nested : (s : Names) (n : ℕ) (x : PlainClauses (List ℕ) (List ℕ) TypeName) → nests.clauses_nesting (compiled_clauses s n x) ≡ nests.clauses_nesting x
  clauses-nested s n p.no_clauses = refl
  clauses-nested s n (p.more_clauses x xs) = two (clause-nested s n x) (clauses-nested (after_clause s n x) (past n (Binders.clause_binders x)) xs)

  group_var-nested : (stream s : Names) (n : ℕ) (x : PlainGroupVar (List ℕ) (List ℕ) TypeName) → nests.group_var_nesting (compiled_group_var stream s n x) ≡ nests.group_var_nesting x
  group_var-nested stream s n (p.stream_group_var variable) = refl
  group_var-nested stream s n (p.computed_group_var variable value) = tree-nested s (n + 1) value

  group_vars-nested : (stream s : Names) (n : ℕ) (x : PlainGroupVars (List ℕ) (List ℕ) TypeName) → nests.group_vars_nesting (compiled_group_vars stream s n x) ≡ nests.group_vars_nesting x
  group_vars-nested stream s n p.no_group_vars = refl
  group_vars-nested stream s n (p.more_group_vars x xs) = two (group_var-nested stream s n x) (group_vars-nested stream (after_key s n x) (past n (Binders.group_var_binders x)) xs)

  order_key-nested : (s : Names) (n : ℕ) (x : PlainOrderKey (List ℕ) (List ℕ) TypeName) → nests.order_key_nesting (compiled_order_key s n x) ≡ nests.order_key_nesting x
  order_key-nested s n (p.order_key_node value descending empty_greatest) = tree-nested s n value

  order_keys-nested : (s : Names) (n : ℕ) (x : PlainOrderKeys (List ℕ) (List ℕ) TypeName) → nests.order_keys_nesting (compiled_order_keys s n x) ≡ nests.order_keys_nesting x
  order_keys-nested s n p.no_order_keys = refl
  order_keys-nested s n (p.more_order_keys x xs) = two (order_key-nested s n x) (order_keys-nested s (past n (Binders.order_key_binders x)) xs)

pub keeps_nesting : CompilingKeepsNesting
keeps_nesting = record {
  variables = λ q. variables-kept nests.nesting nests.nesting tree-nested [] 0 q.variables;
  functions = λ q. functions-kept nests.nesting nests.nesting tree-nested (body_names q) 0 q.functions;
  body = λ q. tree-nested (body_names q) 0 q.body;
}
