-- The variables that an expression, and the parameters of a function, bind, in text order.
use Rattle.std.specs.Prelude.{List, [], ◌∷◌, ◌++◌, map, Option, Some, None}
use Rattle.query_tree.specs.declared.module.Param.{Param}
use Rattle.query_tree.specs.declared.names.Placed.{Placed}
use Rattle.query_tree.specs.Plain as p
use Rattle.query_tree.specs.Plain.{Tree, Trees, Form, MaybeTree, PlainOperand, PlainOperands, PlainTerm, PlainTerms, PlainFactor, PlainFactors, PlainBind, PlainBinds, PlainCase, PlainCases, PlainTypeCase, PlainTypeCases, PlainCatch, PlainCatches, PlainPair, PlainPairs, PlainStep, PlainSteps, PlainLookup, PlainClause, PlainClauses, PlainGroupVar, PlainGroupVars, PlainOrderKey, PlainOrderKeys}

abbrev pub any_name : {V : Type 0} → Option (Placed V) → List V
any_name None = []
any_name (Some x) = x.name ∷ []

abbrev pub params_binders : {V T : Type 0} → List (Param V T) → List V
params_binders qs = map (λ q. q.variable.name) qs

abbrev mutual
  pub binders : {V F T : Type 0} → Tree V F T → List V
  binders (p.tree_node place kind) = form_binders kind

  pub form_binders : {V F T : Type 0} → Form V F T → List V
  form_binders (p.comma_form first rest) = binders first ++ operands_binders rest
  form_binders (p.flwor_form clauses place result) = clauses_binders clauses ++ binders result
  form_binders (p.quant_form quantifier binds test) = binds_binders binds ++ binders test
  form_binders (p.switch_form operand cases default) =
      binders operand ++ cases_binders cases ++ binders default
  form_binders (p.typeswitch_form operand cases variable default) =
      binders operand ++ type_cases_binders cases ++ any_name variable ++ binders default
  form_binders (p.if_form condition when_true when_false) =
      binders condition ++ binders when_true ++ binders when_false
  form_binders (p.try_form body catches) = binders body ++ catches_binders catches
  form_binders (p.or_form first rest) = binders first ++ operands_binders rest
  form_binders (p.and_form first rest) = binders first ++ operands_binders rest
  form_binders (p.not_form operand) = binders operand
  form_binders (p.compare_form left op place right) = binders left ++ binders right
  form_binders (p.concat_form first rest) = binders first ++ operands_binders rest
  form_binders (p.range_form left place right) = binders left ++ binders right
  form_binders (p.sum_form first rest) = binders first ++ terms_binders rest
  form_binders (p.product_form first rest) = binders first ++ factors_binders rest
  form_binders (p.instance_form operand place t) = binders operand
  form_binders (p.treat_form operand place t) = binders operand
  form_binders (p.castable_form operand place t) = binders operand
  form_binders (p.cast_form operand place t) = binders operand
  form_binders (p.sign_form signs operand) = binders operand
  form_binders (p.map_form first rest) = binders first ++ operands_binders rest
  form_binders (p.postfix_form primary steps) = binders primary ++ steps_binders steps
  form_binders (p.int_form value) = []
  form_binders (p.dec_form value) = []
  form_binders (p.text_form value) = []
  form_binders p.true_form = []
  form_binders p.false_form = []
  form_binders p.null_form = []
  form_binders (p.var_form variable) = []
  form_binders p.context_form = []
  form_binders (p.paren_form content) = content_binders content
  form_binders (p.object_form pairs) = pairs_binders pairs
  form_binders (p.merge_form content) = content_binders content
  form_binders (p.array_form content) = content_binders content
  form_binders (p.call_form function arguments) = trees_binders arguments

  pub content_binders : {V F T : Type 0} → MaybeTree V F T → List V
  content_binders p.no_tree = []
  content_binders (p.one_tree t) = binders t

  pub trees_binders : {V F T : Type 0} → Trees V F T → List V
  trees_binders p.no_trees = []
  trees_binders (p.more_trees t ts) = binders t ++ trees_binders ts

  pub operand_binders : {V F T : Type 0} → PlainOperand V F T → List V
  operand_binders (p.operand_node place value) = binders value

  pub operands_binders : {V F T : Type 0} → PlainOperands V F T → List V
  operands_binders p.no_operands = []
  operands_binders (p.more_operands o os) = operand_binders o ++ operands_binders os

  pub term_binders : {V F T : Type 0} → PlainTerm V F T → List V
  term_binders (p.term_node op place value) = binders value

  pub terms_binders : {V F T : Type 0} → PlainTerms V F T → List V
  terms_binders p.no_terms = []
  terms_binders (p.more_terms t ts) = term_binders t ++ terms_binders ts

  pub factor_binders : {V F T : Type 0} → PlainFactor V F T → List V
  factor_binders (p.factor_node op place value) = binders value

  pub factors_binders : {V F T : Type 0} → PlainFactors V F T → List V
  factors_binders p.no_factors = []
  factors_binders (p.more_factors f fs) = factor_binders f ++ factors_binders fs

  pub bind_binders : {V F T : Type 0} → PlainBind V F T → List V
  bind_binders (p.bind_node variable t source) = variable.name ∷ binders source

  pub binds_binders : {V F T : Type 0} → PlainBinds V F T → List V
  binds_binders p.no_binds = []
  binds_binders (p.more_binds b bs) = bind_binders b ++ binds_binders bs

  pub case_binders : {V F T : Type 0} → PlainCase V F T → List V
  case_binders (p.case_node tests result) = trees_binders tests ++ binders result

  pub cases_binders : {V F T : Type 0} → PlainCases V F T → List V
  cases_binders p.no_cases = []
  cases_binders (p.more_cases c cs) = case_binders c ++ cases_binders cs

  pub type_case_binders : {V F T : Type 0} → PlainTypeCase V F T → List V
  type_case_binders (p.type_case_node variable types result) = any_name variable ++ binders result

  pub type_cases_binders : {V F T : Type 0} → PlainTypeCases V F T → List V
  type_cases_binders p.no_type_cases = []
  type_cases_binders (p.more_type_cases c cs) = type_case_binders c ++ type_cases_binders cs

  pub catch_binders : {V F T : Type 0} → PlainCatch V F T → List V
  catch_binders (p.catch_node error codes body) = error.name ∷ binders body

  pub catches_binders : {V F T : Type 0} → PlainCatches V F T → List V
  catches_binders p.no_catches = []
  catches_binders (p.more_catches c cs) = catch_binders c ++ catches_binders cs

  pub pair_binders : {V F T : Type 0} → PlainPair V F T → List V
  pair_binders (p.named_pair name place value) = binders value
  pair_binders (p.computed_pair key place value) = binders key ++ binders value

  pub pairs_binders : {V F T : Type 0} → PlainPairs V F T → List V
  pairs_binders p.no_pairs = []
  pairs_binders (p.more_pairs q qs) = pair_binders q ++ pairs_binders qs

  pub step_binders : {V F T : Type 0} → PlainStep V F T → List V
  step_binders (p.members_step place) = []
  step_binders (p.member_step place position) = binders position
  step_binders (p.filter_step place test) = binders test
  step_binders (p.field_step place key) = lookup_binders key

  pub steps_binders : {V F T : Type 0} → PlainSteps V F T → List V
  steps_binders p.no_steps = []
  steps_binders (p.more_steps t ts) = step_binders t ++ steps_binders ts

  pub lookup_binders : {V F T : Type 0} → PlainLookup V F T → List V
  lookup_binders (p.name_lookup name) = []
  lookup_binders (p.text_lookup value) = []
  lookup_binders (p.var_lookup variable) = []
  lookup_binders (p.context_lookup place) = []
  lookup_binders (p.computed_lookup value) = binders value

  pub clause_binders : {V F T : Type 0} → PlainClause V F T → List V
  clause_binders (p.for_clause variable t allowing_empty position source) =
      variable.name ∷ any_name position ++ binders source
  clause_binders (p.let_clause variable t value) = variable.name ∷ binders value
  clause_binders (p.where_clause place test) = binders test
  clause_binders (p.group_clause place keys) = group_vars_binders keys
  clause_binders (p.order_clause place stable keys) = order_keys_binders keys
  clause_binders (p.count_clause place variable) = variable.name ∷ []

  pub clauses_binders : {V F T : Type 0} → PlainClauses V F T → List V
  clauses_binders p.no_clauses = []
  clauses_binders (p.more_clauses c cs) = clause_binders c ++ clauses_binders cs

  pub group_var_binders : {V F T : Type 0} → PlainGroupVar V F T → List V
  group_var_binders (p.stream_group_var variable) = variable.name ∷ []
  group_var_binders (p.computed_group_var variable value) = variable.name ∷ binders value

  pub group_vars_binders : {V F T : Type 0} → PlainGroupVars V F T → List V
  group_vars_binders p.no_group_vars = []
  group_vars_binders (p.more_group_vars k ks) = group_var_binders k ++ group_vars_binders ks

  pub order_key_binders : {V F T : Type 0} → PlainOrderKey V F T → List V
  order_key_binders (p.order_key_node value descending empty_greatest) = binders value

  pub order_keys_binders : {V F T : Type 0} → PlainOrderKeys V F T → List V
  order_keys_binders p.no_order_keys = []
  order_keys_binders (p.more_order_keys k ks) = order_key_binders k ++ order_keys_binders ks
