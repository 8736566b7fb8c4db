-- Whether all that an expression of a compiled tree uses is there: a variable is read only where it
-- is bound, a function is there and takes so many arguments, `$$` has an item, and a type of a
-- cast is one that a cast may have. A grouping variable always has an expression of its own.
use Rattle.std.specs.Prelude.{ℕ, ◌+◌, Bool, true, false, ◌&&◌}
use Rattle.seq_types.specs.declared.types.SeqType.{SeqType}
use Rattle.query_tree.specs.declared.bound.Slot.{Slot}
use Rattle.query_tree.specs.declared.bound.Target.{Target}
use Rattle.query_tree.specs.Plain as p
use Rattle.query_tree.specs.Plain.{Tree, Trees, Form, MaybeTree, PlainOperand, PlainOperands, PlainTerm, PlainTerms, PlainFactor, PlainFactors, PlainBind, PlainBinds, PlainCase, PlainCases, PlainTypeCase, PlainTypeCases, PlainCatch, PlainCatches, PlainPair, PlainPairs, PlainStep, PlainSteps, PlainLookup, PlainClause, PlainClauses, PlainGroupVar, PlainGroupVars, PlainOrderKey, PlainOrderKeys}
use Rattle.query_tree.specs.Scopes.{Scope, may_read, may_bind, may_bind_any, with_slot, enter_slot, with_any, with_item, may_call, is_cast_type}
use Rattle.query_tree.specs.Scoped.{unnumbered, key_scope, keys_scope, clause_scope, clauses_scope, bind_scope, binds_scope}

-- the plain value of an expression of a compiled tree
abbrev pub BoundTree : Type 0
BoundTree = Tree Slot Target SeqType

abbrev pub how_many : Trees Slot Target SeqType → ℕ
how_many p.no_trees = 0
how_many (p.more_trees t ts) = how_many ts + 1

-- the scope after a key of a grouping, which the keys to its right see, after a clause and after a
-- binding of a quantified expression
abbrev pub after_key : Scope → PlainGroupVar Slot Target SeqType → Scope
after_key s k = key_scope enter_slot s tt k

abbrev pub after_keys : Scope → PlainGroupVars Slot Target SeqType → Scope
after_keys s ks = keys_scope enter_slot unnumbered s tt ks

abbrev pub after_clause : Scope → PlainClause Slot Target SeqType → Scope
after_clause s c = clause_scope enter_slot unnumbered s tt c

abbrev pub after_clauses : Scope → PlainClauses Slot Target SeqType → Scope
after_clauses s cs = clauses_scope enter_slot unnumbered s tt cs

abbrev pub after_bind : Scope → PlainBind Slot Target SeqType → Scope
after_bind s b = bind_scope enter_slot s tt b

abbrev pub after_binds : Scope → PlainBinds Slot Target SeqType → Scope
after_binds s bs = binds_scope enter_slot unnumbered s tt bs

abbrev mutual
  pub is_bound : Scope → BoundTree → Bool
  is_bound s (p.tree_node place kind) = form_bound s kind

  pub form_bound : Scope → Form Slot Target SeqType → Bool
  form_bound s (p.comma_form first rest) = is_bound s first && operands_bound s rest
  form_bound s (p.flwor_form clauses place result) =
      clauses_bound s clauses && is_bound (after_clauses s clauses) result
  form_bound s (p.quant_form quantifier binds test) =
      binds_bound s binds && is_bound (after_binds s binds) test
  form_bound s (p.switch_form operand cases default) =
      is_bound s operand && cases_bound s cases && is_bound s default
  form_bound s (p.typeswitch_form operand cases variable default) =
      is_bound s operand && type_cases_bound s cases && may_bind_any s variable
      && is_bound (with_any s variable) default
  form_bound s (p.if_form condition when_true when_false) =
      is_bound s condition && is_bound s when_true && is_bound s when_false
  form_bound s (p.try_form body catches) = is_bound s body && catches_bound s catches
  form_bound s (p.or_form first rest) = is_bound s first && operands_bound s rest
  form_bound s (p.and_form first rest) = is_bound s first && operands_bound s rest
  form_bound s (p.not_form operand) = is_bound s operand
  form_bound s (p.compare_form left op place right) = is_bound s left && is_bound s right
  form_bound s (p.concat_form first rest) = is_bound s first && operands_bound s rest
  form_bound s (p.range_form left place right) = is_bound s left && is_bound s right
  form_bound s (p.sum_form first rest) = is_bound s first && terms_bound s rest
  form_bound s (p.product_form first rest) = is_bound s first && factors_bound s rest
  form_bound s (p.instance_form operand place t) = is_bound s operand
  form_bound s (p.treat_form operand place t) = is_bound s operand
  form_bound s (p.castable_form operand place t) = is_bound s operand && is_cast_type t.name
  form_bound s (p.cast_form operand place t) = is_bound s operand && is_cast_type t.name
  form_bound s (p.sign_form signs operand) = is_bound s operand
  form_bound s (p.map_form first rest) = is_bound s first && operands_bound (with_item s) rest
  form_bound s (p.postfix_form primary steps) = is_bound s primary && steps_bound s steps
  form_bound s (p.int_form value) = true
  form_bound s (p.dec_form value) = true
  form_bound s (p.text_form value) = true
  form_bound s p.true_form = true
  form_bound s p.false_form = true
  form_bound s p.null_form = true
  form_bound s (p.var_form variable) = may_read s variable
  form_bound s p.context_form = s.item
  form_bound s (p.paren_form content) = content_bound s content
  form_bound s (p.object_form pairs) = pairs_bound s pairs
  form_bound s (p.merge_form content) = content_bound s content
  form_bound s (p.array_form content) = content_bound s content
  form_bound s (p.call_form function arguments) =
      may_call s function (how_many arguments) && trees_bound s arguments

  pub content_bound : Scope → MaybeTree Slot Target SeqType → Bool
  content_bound s p.no_tree = true
  content_bound s (p.one_tree t) = is_bound s t

  pub trees_bound : Scope → Trees Slot Target SeqType → Bool
  trees_bound s p.no_trees = true
  trees_bound s (p.more_trees t ts) = is_bound s t && trees_bound s ts

  pub operand_bound : Scope → PlainOperand Slot Target SeqType → Bool
  operand_bound s (p.operand_node place value) = is_bound s value

  pub operands_bound : Scope → PlainOperands Slot Target SeqType → Bool
  operands_bound s p.no_operands = true
  operands_bound s (p.more_operands o os) = operand_bound s o && operands_bound s os

  pub term_bound : Scope → PlainTerm Slot Target SeqType → Bool
  term_bound s (p.term_node op place value) = is_bound s value

  pub terms_bound : Scope → PlainTerms Slot Target SeqType → Bool
  terms_bound s p.no_terms = true
  terms_bound s (p.more_terms t ts) = term_bound s t && terms_bound s ts

  pub factor_bound : Scope → PlainFactor Slot Target SeqType → Bool
  factor_bound s (p.factor_node op place value) = is_bound s value

  pub factors_bound : Scope → PlainFactors Slot Target SeqType → Bool
  factors_bound s p.no_factors = true
  factors_bound s (p.more_factors f fs) = factor_bound s f && factors_bound s fs

  pub bind_bound : Scope → PlainBind Slot Target SeqType → Bool
  bind_bound s (p.bind_node variable t source) = may_bind s variable.name && is_bound s source

  pub binds_bound : Scope → PlainBinds Slot Target SeqType → Bool
  binds_bound s p.no_binds = true
  binds_bound s (p.more_binds b bs) = bind_bound s b && binds_bound (after_bind s b) bs

  pub case_bound : Scope → PlainCase Slot Target SeqType → Bool
  case_bound s (p.case_node tests result) = trees_bound s tests && is_bound s result

  pub cases_bound : Scope → PlainCases Slot Target SeqType → Bool
  cases_bound s p.no_cases = true
  cases_bound s (p.more_cases c cs) = case_bound s c && cases_bound s cs

  pub type_case_bound : Scope → PlainTypeCase Slot Target SeqType → Bool
  type_case_bound s (p.type_case_node variable types result) =
      may_bind_any s variable && is_bound (with_any s variable) result

  pub type_cases_bound : Scope → PlainTypeCases Slot Target SeqType → Bool
  type_cases_bound s p.no_type_cases = true
  type_cases_bound s (p.more_type_cases c cs) = type_case_bound s c && type_cases_bound s cs

  pub catch_bound : Scope → PlainCatch Slot Target SeqType → Bool
  catch_bound s (p.catch_node error codes body) =
      may_bind s error.name && is_bound (with_slot s error.name) body

  pub catches_bound : Scope → PlainCatches Slot Target SeqType → Bool
  catches_bound s p.no_catches = true
  catches_bound s (p.more_catches c cs) = catch_bound s c && catches_bound s cs

  pub pair_bound : Scope → PlainPair Slot Target SeqType → Bool
  pair_bound s (p.named_pair name place value) = is_bound s value
  pair_bound s (p.computed_pair key place value) = is_bound s key && is_bound s value

  pub pairs_bound : Scope → PlainPairs Slot Target SeqType → Bool
  pairs_bound s p.no_pairs = true
  pairs_bound s (p.more_pairs q qs) = pair_bound s q && pairs_bound s qs

  pub step_bound : Scope → PlainStep Slot Target SeqType → Bool
  step_bound s (p.members_step place) = true
  step_bound s (p.member_step place position) = is_bound s position
  step_bound s (p.filter_step place test) = is_bound (with_item s) test
  step_bound s (p.field_step place key) = lookup_bound s key

  pub steps_bound : Scope → PlainSteps Slot Target SeqType → Bool
  steps_bound s p.no_steps = true
  steps_bound s (p.more_steps t ts) = step_bound s t && steps_bound s ts

  pub lookup_bound : Scope → PlainLookup Slot Target SeqType → Bool
  lookup_bound s (p.name_lookup name) = true
  lookup_bound s (p.text_lookup value) = true
  lookup_bound s (p.var_lookup variable) = may_read s variable.name
  lookup_bound s (p.context_lookup place) = s.item
  lookup_bound s (p.computed_lookup value) = is_bound s value

  pub clause_bound : Scope → PlainClause Slot Target SeqType → Bool
  clause_bound s (p.for_clause variable t allowing_empty position source) =
      may_bind s variable.name && may_bind_any s position && is_bound s source
  clause_bound s (p.let_clause variable t value) = may_bind s variable.name && is_bound s value
  clause_bound s (p.where_clause place test) = is_bound s test
  clause_bound s (p.group_clause place keys) = group_vars_bound s keys
  clause_bound s (p.order_clause place stable keys) = order_keys_bound s keys
  clause_bound s (p.count_clause place variable) = may_bind s variable.name

  pub clauses_bound : Scope → PlainClauses Slot Target SeqType → Bool
  clauses_bound s p.no_clauses = true
  clauses_bound s (p.more_clauses c cs) = clause_bound s c && clauses_bound (after_clause s c) cs

  pub group_var_bound : Scope → PlainGroupVar Slot Target SeqType → Bool
  group_var_bound s (p.stream_group_var variable) = false
  group_var_bound s (p.computed_group_var variable value) =
      may_bind s variable.name && is_bound s value

  pub group_vars_bound : Scope → PlainGroupVars Slot Target SeqType → Bool
  group_vars_bound s p.no_group_vars = true
  group_vars_bound s (p.more_group_vars k ks) =
      group_var_bound s k && group_vars_bound (after_key s k) ks

  pub order_key_bound : Scope → PlainOrderKey Slot Target SeqType → Bool
  order_key_bound s (p.order_key_node value descending empty_greatest) = is_bound s value

  pub order_keys_bound : Scope → PlainOrderKeys Slot Target SeqType → Bool
  order_keys_bound s p.no_order_keys = true
  order_keys_bound s (p.more_order_keys k ks) = order_key_bound s k && order_keys_bound s ks
