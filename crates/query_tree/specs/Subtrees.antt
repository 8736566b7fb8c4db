-- Written by tools/plain_trees.py from the types of src/. Change those, and run it again.
-- The trees that a node holds, and all trees that stand in a tree, in text order. A tree stands
-- before those in it.
use Rattle.std.specs.Prelude.{List, [], ◌∷◌, ◌++◌}
use Rattle.query_tree.specs.Plain as p
use Rattle.query_tree.specs.Plain.{Tree, PlainGroupVar, PlainOrderKey, PlainOperand, PlainTerm, PlainFactor, PlainBind, PlainCase, PlainTypeCase, PlainCatch, PlainPair, PlainLookup, PlainStep, PlainClause, Form, PlainClauses, Trees, PlainGroupVars, PlainOrderKeys, PlainOperands, PlainTerms, PlainFactors, PlainBinds, PlainCases, PlainTypeCases, PlainCatches, PlainPairs, PlainSteps, MaybeTree}

abbrev pub content_children : {V F T : Type 0} → MaybeTree V F T → List (Tree V F T)
content_children p.no_tree = []
content_children (p.one_tree t) = t ∷ []

abbrev pub trees_children : {V F T : Type 0} → Trees V F T → List (Tree V F T)
trees_children p.no_trees = []
trees_children (p.more_trees x xs) = x ∷ trees_children xs

abbrev pub group_var_children : {V F T : Type 0} → PlainGroupVar V F T → List (Tree V F T)
group_var_children (p.stream_group_var variable) = []
group_var_children (p.computed_group_var variable value) = value ∷ []

abbrev pub group_vars_children : {V F T : Type 0} → PlainGroupVars V F T → List (Tree V F T)
group_vars_children p.no_group_vars = []
group_vars_children (p.more_group_vars x xs) = group_var_children x ++ group_vars_children xs

abbrev pub order_key_children : {V F T : Type 0} → PlainOrderKey V F T → List (Tree V F T)
order_key_children (p.order_key_node value descending empty_greatest) = value ∷ []

abbrev pub order_keys_children : {V F T : Type 0} → PlainOrderKeys V F T → List (Tree V F T)
order_keys_children p.no_order_keys = []
order_keys_children (p.more_order_keys x xs) = order_key_children x ++ order_keys_children xs

abbrev pub operand_children : {V F T : Type 0} → PlainOperand V F T → List (Tree V F T)
operand_children (p.operand_node place value) = value ∷ []

abbrev pub operands_children : {V F T : Type 0} → PlainOperands V F T → List (Tree V F T)
operands_children p.no_operands = []
operands_children (p.more_operands x xs) = operand_children x ++ operands_children xs

abbrev pub term_children : {V F T : Type 0} → PlainTerm V F T → List (Tree V F T)
term_children (p.term_node op place value) = value ∷ []

abbrev pub terms_children : {V F T : Type 0} → PlainTerms V F T → List (Tree V F T)
terms_children p.no_terms = []
terms_children (p.more_terms x xs) = term_children x ++ terms_children xs

abbrev pub factor_children : {V F T : Type 0} → PlainFactor V F T → List (Tree V F T)
factor_children (p.factor_node op place value) = value ∷ []

abbrev pub factors_children : {V F T : Type 0} → PlainFactors V F T → List (Tree V F T)
factors_children p.no_factors = []
factors_children (p.more_factors x xs) = factor_children x ++ factors_children xs

abbrev pub bind_children : {V F T : Type 0} → PlainBind V F T → List (Tree V F T)
bind_children (p.bind_node variable t source) = source ∷ []

abbrev pub binds_children : {V F T : Type 0} → PlainBinds V F T → List (Tree V F T)
binds_children p.no_binds = []
binds_children (p.more_binds x xs) = bind_children x ++ binds_children xs

abbrev pub case_children : {V F T : Type 0} → PlainCase V F T → List (Tree V F T)
case_children (p.case_node tests result) = trees_children tests ++ result ∷ []

abbrev pub cases_children : {V F T : Type 0} → PlainCases V F T → List (Tree V F T)
cases_children p.no_cases = []
cases_children (p.more_cases x xs) = case_children x ++ cases_children xs

abbrev pub type_case_children : {V F T : Type 0} → PlainTypeCase V F T → List (Tree V F T)
type_case_children (p.type_case_node variable types result) = result ∷ []

abbrev pub type_cases_children : {V F T : Type 0} → PlainTypeCases V F T → List (Tree V F T)
type_cases_children p.no_type_cases = []
type_cases_children (p.more_type_cases x xs) = type_case_children x ++ type_cases_children xs

abbrev pub catch_children : {V F T : Type 0} → PlainCatch V F T → List (Tree V F T)
catch_children (p.catch_node error codes body) = body ∷ []

abbrev pub catches_children : {V F T : Type 0} → PlainCatches V F T → List (Tree V F T)
catches_children p.no_catches = []
catches_children (p.more_catches x xs) = catch_children x ++ catches_children xs

abbrev pub pair_children : {V F T : Type 0} → PlainPair V F T → List (Tree V F T)
pair_children (p.named_pair name place value) = value ∷ []
pair_children (p.computed_pair key place value) = key ∷ value ∷ []

abbrev pub pairs_children : {V F T : Type 0} → PlainPairs V F T → List (Tree V F T)
pairs_children p.no_pairs = []
pairs_children (p.more_pairs x xs) = pair_children x ++ pairs_children xs

abbrev pub lookup_children : {V F T : Type 0} → PlainLookup V F T → List (Tree V F T)
lookup_children (p.name_lookup name) = []
lookup_children (p.text_lookup value) = []
lookup_children (p.var_lookup variable) = []
lookup_children (p.context_lookup place) = []
lookup_children (p.computed_lookup value) = value ∷ []

abbrev pub step_children : {V F T : Type 0} → PlainStep V F T → List (Tree V F T)
step_children (p.members_step place) = []
step_children (p.member_step place position) = position ∷ []
step_children (p.filter_step place test) = test ∷ []
step_children (p.field_step place key) = lookup_children key

abbrev pub steps_children : {V F T : Type 0} → PlainSteps V F T → List (Tree V F T)
steps_children p.no_steps = []
steps_children (p.more_steps x xs) = step_children x ++ steps_children xs

abbrev pub clause_children : {V F T : Type 0} → PlainClause V F T → List (Tree V F T)
clause_children (p.for_clause variable t allowing_empty position source) = source ∷ []
clause_children (p.let_clause variable t value) = value ∷ []
clause_children (p.where_clause place test) = test ∷ []
clause_children (p.group_clause place keys) = group_vars_children keys
clause_children (p.order_clause place stable keys) = order_keys_children keys
clause_children (p.count_clause place variable) = []

abbrev pub clauses_children : {V F T : Type 0} → PlainClauses V F T → List (Tree V F T)
clauses_children p.no_clauses = []
clauses_children (p.more_clauses x xs) = clause_children x ++ clauses_children xs

abbrev pub form_children : {V F T : Type 0} → Form V F T → List (Tree V F T)
form_children (p.comma_form first rest) = first ∷ operands_children rest
form_children (p.flwor_form clauses place result) = clauses_children clauses ++ result ∷ []
form_children (p.quant_form quantifier binds test) = binds_children binds ++ test ∷ []
form_children (p.switch_form operand cases default) = operand ∷ cases_children cases ++ default ∷ []
form_children (p.typeswitch_form operand cases variable default) =
    operand ∷ type_cases_children cases ++ default ∷ []
form_children (p.if_form condition when_true when_false) = condition ∷ when_true ∷ when_false ∷ []
form_children (p.try_form body catches) = body ∷ catches_children catches
form_children (p.or_form first rest) = first ∷ operands_children rest
form_children (p.and_form first rest) = first ∷ operands_children rest
form_children (p.not_form operand) = operand ∷ []
form_children (p.compare_form left op place right) = left ∷ right ∷ []
form_children (p.concat_form first rest) = first ∷ operands_children rest
form_children (p.range_form left place right) = left ∷ right ∷ []
form_children (p.sum_form first rest) = first ∷ terms_children rest
form_children (p.product_form first rest) = first ∷ factors_children rest
form_children (p.instance_form operand place t) = operand ∷ []
form_children (p.treat_form operand place t) = operand ∷ []
form_children (p.castable_form operand place t) = operand ∷ []
form_children (p.cast_form operand place t) = operand ∷ []
form_children (p.sign_form signs operand) = operand ∷ []
form_children (p.map_form first rest) = first ∷ operands_children rest
form_children (p.postfix_form primary steps) = primary ∷ steps_children steps
form_children (p.int_form value) = []
form_children (p.dec_form value) = []
form_children (p.text_form value) = []
form_children p.true_form = []
form_children p.false_form = []
form_children p.null_form = []
form_children (p.var_form variable) = []
form_children p.context_form = []
form_children (p.paren_form content) = content_children content
form_children (p.object_form pairs) = pairs_children pairs
form_children (p.merge_form content) = content_children content
form_children (p.array_form content) = content_children content
form_children (p.call_form function arguments) = trees_children arguments

-- the trees that a tree holds
abbrev pub children : {V F T : Type 0} → Tree V F T → List (Tree V F T)
children (p.tree_node place kind) = form_children kind

abbrev mutual
  -- a tree, and the trees in it
  pub subtrees : {V F T : Type 0} → Tree V F T → List (Tree V F T)
  subtrees (p.tree_node place kind) = p.tree_node place kind ∷ form_subtrees kind

  pub form_subtrees : {V F T : Type 0} → Form V F T → List (Tree V F T)
  form_subtrees (p.comma_form first rest) = subtrees first ++ operands_subtrees rest
  form_subtrees (p.flwor_form clauses place result) = clauses_subtrees clauses ++ subtrees result
  form_subtrees (p.quant_form quantifier binds test) = binds_subtrees binds ++ subtrees test
  form_subtrees (p.switch_form operand cases default) =
      subtrees operand ++ cases_subtrees cases ++ subtrees default
  form_subtrees (p.typeswitch_form operand cases variable default) =
      subtrees operand ++ type_cases_subtrees cases ++ subtrees default
  form_subtrees (p.if_form condition when_true when_false) =
      subtrees condition ++ subtrees when_true ++ subtrees when_false
  form_subtrees (p.try_form body catches) = subtrees body ++ catches_subtrees catches
  form_subtrees (p.or_form first rest) = subtrees first ++ operands_subtrees rest
  form_subtrees (p.and_form first rest) = subtrees first ++ operands_subtrees rest
  form_subtrees (p.not_form operand) = subtrees operand
  form_subtrees (p.compare_form left op place right) = subtrees left ++ subtrees right
  form_subtrees (p.concat_form first rest) = subtrees first ++ operands_subtrees rest
  form_subtrees (p.range_form left place right) = subtrees left ++ subtrees right
  form_subtrees (p.sum_form first rest) = subtrees first ++ terms_subtrees rest
  form_subtrees (p.product_form first rest) = subtrees first ++ factors_subtrees rest
  form_subtrees (p.instance_form operand place t) = subtrees operand
  form_subtrees (p.treat_form operand place t) = subtrees operand
  form_subtrees (p.castable_form operand place t) = subtrees operand
  form_subtrees (p.cast_form operand place t) = subtrees operand
  form_subtrees (p.sign_form signs operand) = subtrees operand
  form_subtrees (p.map_form first rest) = subtrees first ++ operands_subtrees rest
  form_subtrees (p.postfix_form primary steps) = subtrees primary ++ steps_subtrees steps
  form_subtrees (p.int_form value) = []
  form_subtrees (p.dec_form value) = []
  form_subtrees (p.text_form value) = []
  form_subtrees p.true_form = []
  form_subtrees p.false_form = []
  form_subtrees p.null_form = []
  form_subtrees (p.var_form variable) = []
  form_subtrees p.context_form = []
  form_subtrees (p.paren_form content) = content_subtrees content
  form_subtrees (p.object_form pairs) = pairs_subtrees pairs
  form_subtrees (p.merge_form content) = content_subtrees content
  form_subtrees (p.array_form content) = content_subtrees content
  form_subtrees (p.call_form function arguments) = trees_subtrees arguments

  pub clause_subtrees : {V F T : Type 0} → PlainClause V F T → List (Tree V F T)
  clause_subtrees (p.for_clause variable t allowing_empty position source) = subtrees source
  clause_subtrees (p.let_clause variable t value) = subtrees value
  clause_subtrees (p.where_clause place test) = subtrees test
  clause_subtrees (p.group_clause place keys) = group_vars_subtrees keys
  clause_subtrees (p.order_clause place stable keys) = order_keys_subtrees keys
  clause_subtrees (p.count_clause place variable) = []

  pub clauses_subtrees : {V F T : Type 0} → PlainClauses V F T → List (Tree V F T)
  clauses_subtrees p.no_clauses = []
  clauses_subtrees (p.more_clauses x xs) = clause_subtrees x ++ clauses_subtrees xs

  pub step_subtrees : {V F T : Type 0} → PlainStep V F T → List (Tree V F T)
  step_subtrees (p.members_step place) = []
  step_subtrees (p.member_step place position) = subtrees position
  step_subtrees (p.filter_step place test) = subtrees test
  step_subtrees (p.field_step place key) = lookup_subtrees key

  pub steps_subtrees : {V F T : Type 0} → PlainSteps V F T → List (Tree V F T)
  steps_subtrees p.no_steps = []
  steps_subtrees (p.more_steps x xs) = step_subtrees x ++ steps_subtrees xs

  pub lookup_subtrees : {V F T : Type 0} → PlainLookup V F T → List (Tree V F T)
  lookup_subtrees (p.name_lookup name) = []
  lookup_subtrees (p.text_lookup value) = []
  lookup_subtrees (p.var_lookup variable) = []
  lookup_subtrees (p.context_lookup place) = []
  lookup_subtrees (p.computed_lookup value) = subtrees value

  pub pair_subtrees : {V F T : Type 0} → PlainPair V F T → List (Tree V F T)
  pair_subtrees (p.named_pair name place value) = subtrees value
  pair_subtrees (p.computed_pair key place value) = subtrees key ++ subtrees value

  pub pairs_subtrees : {V F T : Type 0} → PlainPairs V F T → List (Tree V F T)
  pairs_subtrees p.no_pairs = []
  pairs_subtrees (p.more_pairs x xs) = pair_subtrees x ++ pairs_subtrees xs

  pub catch_subtrees : {V F T : Type 0} → PlainCatch V F T → List (Tree V F T)
  catch_subtrees (p.catch_node error codes body) = subtrees body

  pub catches_subtrees : {V F T : Type 0} → PlainCatches V F T → List (Tree V F T)
  catches_subtrees p.no_catches = []
  catches_subtrees (p.more_catches x xs) = catch_subtrees x ++ catches_subtrees xs

  pub type_case_subtrees : {V F T : Type 0} → PlainTypeCase V F T → List (Tree V F T)
  type_case_subtrees (p.type_case_node variable types result) = subtrees result

  pub type_cases_subtrees : {V F T : Type 0} → PlainTypeCases V F T → List (Tree V F T)
  type_cases_subtrees p.no_type_cases = []
  type_cases_subtrees (p.more_type_cases x xs) = type_case_subtrees x ++ type_cases_subtrees xs

  pub case_subtrees : {V F T : Type 0} → PlainCase V F T → List (Tree V F T)
  case_subtrees (p.case_node tests result) = trees_subtrees tests ++ subtrees result

  pub cases_subtrees : {V F T : Type 0} → PlainCases V F T → List (Tree V F T)
  cases_subtrees p.no_cases = []
  cases_subtrees (p.more_cases x xs) = case_subtrees x ++ cases_subtrees xs

  pub bind_subtrees : {V F T : Type 0} → PlainBind V F T → List (Tree V F T)
  bind_subtrees (p.bind_node variable t source) = subtrees source

  pub binds_subtrees : {V F T : Type 0} → PlainBinds V F T → List (Tree V F T)
  binds_subtrees p.no_binds = []
  binds_subtrees (p.more_binds x xs) = bind_subtrees x ++ binds_subtrees xs

  pub factor_subtrees : {V F T : Type 0} → PlainFactor V F T → List (Tree V F T)
  factor_subtrees (p.factor_node op place value) = subtrees value

  pub factors_subtrees : {V F T : Type 0} → PlainFactors V F T → List (Tree V F T)
  factors_subtrees p.no_factors = []
  factors_subtrees (p.more_factors x xs) = factor_subtrees x ++ factors_subtrees xs

  pub term_subtrees : {V F T : Type 0} → PlainTerm V F T → List (Tree V F T)
  term_subtrees (p.term_node op place value) = subtrees value

  pub terms_subtrees : {V F T : Type 0} → PlainTerms V F T → List (Tree V F T)
  terms_subtrees p.no_terms = []
  terms_subtrees (p.more_terms x xs) = term_subtrees x ++ terms_subtrees xs

  pub operand_subtrees : {V F T : Type 0} → PlainOperand V F T → List (Tree V F T)
  operand_subtrees (p.operand_node place value) = subtrees value

  pub operands_subtrees : {V F T : Type 0} → PlainOperands V F T → List (Tree V F T)
  operands_subtrees p.no_operands = []
  operands_subtrees (p.more_operands x xs) = operand_subtrees x ++ operands_subtrees xs

  pub order_key_subtrees : {V F T : Type 0} → PlainOrderKey V F T → List (Tree V F T)
  order_key_subtrees (p.order_key_node value descending empty_greatest) = subtrees value

  pub order_keys_subtrees : {V F T : Type 0} → PlainOrderKeys V F T → List (Tree V F T)
  order_keys_subtrees p.no_order_keys = []
  order_keys_subtrees (p.more_order_keys x xs) = order_key_subtrees x ++ order_keys_subtrees xs

  pub group_var_subtrees : {V F T : Type 0} → PlainGroupVar V F T → List (Tree V F T)
  group_var_subtrees (p.stream_group_var variable) = []
  group_var_subtrees (p.computed_group_var variable value) = subtrees value

  pub group_vars_subtrees : {V F T : Type 0} → PlainGroupVars V F T → List (Tree V F T)
  group_vars_subtrees p.no_group_vars = []
  group_vars_subtrees (p.more_group_vars x xs) = group_var_subtrees x ++ group_vars_subtrees xs

  pub trees_subtrees : {V F T : Type 0} → Trees V F T → List (Tree V F T)
  trees_subtrees p.no_trees = []
  trees_subtrees (p.more_trees x xs) = subtrees x ++ trees_subtrees xs

  pub content_subtrees : {V F T : Type 0} → MaybeTree V F T → List (Tree V F T)
  content_subtrees p.no_tree = []
  content_subtrees (p.one_tree t) = subtrees t
