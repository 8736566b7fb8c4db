-- What an expression mentions that a rule may refuse, place by place, with what is seen there.
use Rattle.std.specs.Prelude.{ℕ, Bool, false, Option, Some, None, List, [], ◌∷◌, ◌++◌, length, map}
use Rattle.query_tree.specs.declared.names.Placed.{Placed}
use Rattle.query_tree.specs.declared.names.TypeName.{TypeName}
use Rattle.query_tree.specs.declared.module.Param.{Param}
use Rattle.query_tree.specs.Modules.{PlainVariable, PlainFunction}
use Rattle.query_tree.specs.Plain as p
use Rattle.query_tree.specs.Plain.{Trees, Form, MaybeTree, PlainOperand, PlainOperands, PlainTerm, PlainTerms, PlainFactor, PlainFactors, PlainBind, PlainBinds, PlainCase, PlainCases, PlainTypeCase, PlainTypeCases, PlainCatch, PlainCatches, PlainPair, PlainPairs, PlainStep, PlainSteps, PlainLookup, PlainClause, PlainClauses, PlainGroupVar, PlainGroupVars, PlainOrderKey, PlainOrderKeys}
use Rattle.query_tree.specs.NamedViews.{NamedTree, NamedQuery}
use Rattle.static_rules.specs.Views.{NamedTrees, Callee, View, with_name, with_item, seeing, and_any, after_bind, after_binds, after_key, after_clause, after_clauses}

pub data Mention : Type 0 where
  -- a variable that is read, and the names that are bound
  reads : (name : List ℕ) → (bound : List (List ℕ)) → Mention
  -- `$$`, and whether it stands for an item
  reads_item : (item : Bool) → Mention
  -- a call, and the declared functions that are seen
  calls : (name : List ℕ) → (arguments : NamedTrees) → (functions : List Callee) → Mention
  -- the type of a sequence, and of a cast
  has_type : (type : TypeName) → Mention
  casts_to : (type : TypeName) → Mention
  -- the `at` variable of a `for`
  counts_positions : (position : List ℕ) → (variable : List ℕ) → Mention
  -- a grouping variable without an expression, and the names of the stream
  groups_by : (name : List ℕ) → (stream : List (List ℕ)) → Mention
  -- a declaration, and the earlier ones of its kind
  declares_function : (function : Callee) → (earlier : List Callee) → Mention
  declares_parameter : (name : List ℕ) → (earlier : List (List ℕ)) → Mention
  declares_variable : (name : List ℕ) → (earlier : List (List ℕ)) → Mention

pub record MentionAt : Type 0 where
  pub place : ℕ
  pub mention : Mention

abbrev pub mention_at : ℕ → Mention → MentionAt
mention_at place mention = record { place = place; mention = mention }

abbrev pub types_mentions : List (Placed TypeName) → List MentionAt
types_mentions ts = map (λ t. mention_at t.place (has_type t.name)) ts

abbrev pub type_mentions : Option (Placed TypeName) → List MentionAt
type_mentions None = []
type_mentions (Some t) = mention_at t.place (has_type t.name) ∷ []

abbrev pub position_mentions : Placed (List ℕ) → Option (Placed (List ℕ)) → List MentionAt
position_mentions variable None = []
position_mentions variable (Some x) =
    mention_at x.place (counts_positions x.name variable.name) ∷ []

abbrev mutual
  pub mentions : View → NamedTree → List MentionAt
  mentions v (p.tree_node place kind) = form_mentions v place kind

  pub form_mentions : View → ℕ → Form (List ℕ) (List ℕ) TypeName → List MentionAt
  form_mentions v here (p.comma_form first rest) = mentions v first ++ operands_mentions v rest
  form_mentions v here (p.flwor_form clauses place result) =
      clauses_mentions v [] clauses
      ++ mentions (seeing v (after_clauses v.variables clauses)) result
  form_mentions v here (p.quant_form quantifier binds test) =
      binds_mentions v binds ++ mentions (seeing v (after_binds v.variables binds)) test
  form_mentions v here (p.switch_form operand cases default) =
      mentions v operand ++ cases_mentions v cases ++ mentions v default
  form_mentions v here (p.typeswitch_form operand cases variable default) =
      mentions v operand ++ type_cases_mentions v cases
      ++ mentions (seeing v (and_any v.variables variable)) default
  form_mentions v here (p.if_form condition when_true when_false) =
      mentions v condition ++ mentions v when_true ++ mentions v when_false
  form_mentions v here (p.try_form body catches) = mentions v body ++ catches_mentions v catches
  form_mentions v here (p.or_form first rest) = mentions v first ++ operands_mentions v rest
  form_mentions v here (p.and_form first rest) = mentions v first ++ operands_mentions v rest
  form_mentions v here (p.not_form operand) = mentions v operand
  form_mentions v here (p.compare_form left op place right) = mentions v left ++ mentions v right
  form_mentions v here (p.concat_form first rest) = mentions v first ++ operands_mentions v rest
  form_mentions v here (p.range_form left place right) = mentions v left ++ mentions v right
  form_mentions v here (p.sum_form first rest) = mentions v first ++ terms_mentions v rest
  form_mentions v here (p.product_form first rest) = mentions v first ++ factors_mentions v rest
  form_mentions v here (p.instance_form operand place t) =
      mentions v operand ++ mention_at t.place (has_type t.name) ∷ []
  form_mentions v here (p.treat_form operand place t) =
      mentions v operand ++ mention_at t.place (has_type t.name) ∷ []
  form_mentions v here (p.castable_form operand place t) =
      mentions v operand ++ mention_at t.place (casts_to t.name) ∷ []
  form_mentions v here (p.cast_form operand place t) =
      mentions v operand ++ mention_at t.place (casts_to t.name) ∷ []
  form_mentions v here (p.sign_form signs operand) = mentions v operand
  form_mentions v here (p.map_form first rest) =
      mentions v first ++ operands_mentions (with_item v) rest
  form_mentions v here (p.postfix_form primary steps) = mentions v primary ++ steps_mentions v steps
  form_mentions v here (p.int_form value) = []
  form_mentions v here (p.dec_form value) = []
  form_mentions v here (p.text_form value) = []
  form_mentions v here p.true_form = []
  form_mentions v here p.false_form = []
  form_mentions v here p.null_form = []
  form_mentions v here (p.var_form variable) = mention_at here (reads variable v.variables) ∷ []
  form_mentions v here p.context_form = mention_at here (reads_item v.item) ∷ []
  form_mentions v here (p.paren_form content) = content_mentions v content
  form_mentions v here (p.object_form pairs) = pairs_mentions v pairs
  form_mentions v here (p.merge_form content) = content_mentions v content
  form_mentions v here (p.array_form content) = content_mentions v content
  form_mentions v here (p.call_form function arguments) =
      mention_at here (calls function arguments v.functions) ∷ trees_mentions v arguments

  pub content_mentions : View → MaybeTree (List ℕ) (List ℕ) TypeName → List MentionAt
  content_mentions v p.no_tree = []
  content_mentions v (p.one_tree t) = mentions v t

  pub trees_mentions : View → NamedTrees → List MentionAt
  trees_mentions v p.no_trees = []
  trees_mentions v (p.more_trees t ts) = mentions v t ++ trees_mentions v ts

  pub operand_mentions : View → PlainOperand (List ℕ) (List ℕ) TypeName → List MentionAt
  operand_mentions v (p.operand_node place value) = mentions v value

  pub operands_mentions : View → PlainOperands (List ℕ) (List ℕ) TypeName → List MentionAt
  operands_mentions v p.no_operands = []
  operands_mentions v (p.more_operands o os) = operand_mentions v o ++ operands_mentions v os

  pub term_mentions : View → PlainTerm (List ℕ) (List ℕ) TypeName → List MentionAt
  term_mentions v (p.term_node op place value) = mentions v value

  pub terms_mentions : View → PlainTerms (List ℕ) (List ℕ) TypeName → List MentionAt
  terms_mentions v p.no_terms = []
  terms_mentions v (p.more_terms t ts) = term_mentions v t ++ terms_mentions v ts

  pub factor_mentions : View → PlainFactor (List ℕ) (List ℕ) TypeName → List MentionAt
  factor_mentions v (p.factor_node op place value) = mentions v value

  pub factors_mentions : View → PlainFactors (List ℕ) (List ℕ) TypeName → List MentionAt
  factors_mentions v p.no_factors = []
  factors_mentions v (p.more_factors f fs) = factor_mentions v f ++ factors_mentions v fs

  pub bind_mentions : View → PlainBind (List ℕ) (List ℕ) TypeName → List MentionAt
  bind_mentions v (p.bind_node variable t source) = type_mentions t ++ mentions v source

  -- each binding sees those to its left
  pub binds_mentions : View → PlainBinds (List ℕ) (List ℕ) TypeName → List MentionAt
  binds_mentions v p.no_binds = []
  binds_mentions v (p.more_binds b bs) =
      bind_mentions v b ++ binds_mentions (seeing v (after_bind v.variables b)) bs

  pub case_mentions : View → PlainCase (List ℕ) (List ℕ) TypeName → List MentionAt
  case_mentions v (p.case_node tests result) = trees_mentions v tests ++ mentions v result

  pub cases_mentions : View → PlainCases (List ℕ) (List ℕ) TypeName → List MentionAt
  cases_mentions v p.no_cases = []
  cases_mentions v (p.more_cases c cs) = case_mentions v c ++ cases_mentions v cs

  pub type_case_mentions : View → PlainTypeCase (List ℕ) (List ℕ) TypeName → List MentionAt
  type_case_mentions v (p.type_case_node variable types result) =
      types_mentions types ++ mentions (seeing v (and_any v.variables variable)) result

  pub type_cases_mentions : View → PlainTypeCases (List ℕ) (List ℕ) TypeName → List MentionAt
  type_cases_mentions v p.no_type_cases = []
  type_cases_mentions v (p.more_type_cases c cs) =
      type_case_mentions v c ++ type_cases_mentions v cs

  pub catch_mentions : View → PlainCatch (List ℕ) (List ℕ) TypeName → List MentionAt
  catch_mentions v (p.catch_node error codes body) = mentions (with_name v error.name) body

  pub catches_mentions : View → PlainCatches (List ℕ) (List ℕ) TypeName → List MentionAt
  catches_mentions v p.no_catches = []
  catches_mentions v (p.more_catches c cs) = catch_mentions v c ++ catches_mentions v cs

  pub pair_mentions : View → PlainPair (List ℕ) (List ℕ) TypeName → List MentionAt
  pair_mentions v (p.named_pair name place value) = mentions v value
  pair_mentions v (p.computed_pair key place value) = mentions v key ++ mentions v value

  pub pairs_mentions : View → PlainPairs (List ℕ) (List ℕ) TypeName → List MentionAt
  pairs_mentions v p.no_pairs = []
  pairs_mentions v (p.more_pairs q qs) = pair_mentions v q ++ pairs_mentions v qs

  pub step_mentions : View → PlainStep (List ℕ) (List ℕ) TypeName → List MentionAt
  step_mentions v (p.members_step place) = []
  step_mentions v (p.member_step place position) = mentions v position
  step_mentions v (p.filter_step place test) = mentions (with_item v) test
  step_mentions v (p.field_step place key) = lookup_mentions v key

  pub steps_mentions : View → PlainSteps (List ℕ) (List ℕ) TypeName → List MentionAt
  steps_mentions v p.no_steps = []
  steps_mentions v (p.more_steps t ts) = step_mentions v t ++ steps_mentions v ts

  pub lookup_mentions : View → PlainLookup (List ℕ) (List ℕ) TypeName → List MentionAt
  lookup_mentions v (p.name_lookup name) = []
  lookup_mentions v (p.text_lookup value) = []
  lookup_mentions v (p.var_lookup variable) =
      mention_at variable.place (reads variable.name v.variables) ∷ []
  lookup_mentions v (p.context_lookup place) = mention_at place (reads_item v.item) ∷ []
  lookup_mentions v (p.computed_lookup value) = mentions v value

  -- a clause, behind clauses of its own FLWOR that bind these names
  pub clause_mentions : View → List (List ℕ) → PlainClause (List ℕ) (List ℕ) TypeName
      → List MentionAt
  clause_mentions v stream (p.for_clause variable t allowing_empty position source) =
      type_mentions t ++ position_mentions variable position ++ mentions v source
  clause_mentions v stream (p.let_clause variable t value) = type_mentions t ++ mentions v value
  clause_mentions v stream (p.where_clause place test) = mentions v test
  clause_mentions v stream (p.group_clause place keys) = group_vars_mentions v stream keys
  clause_mentions v stream (p.order_clause place stable keys) = order_keys_mentions v keys
  clause_mentions v stream (p.count_clause place variable) = []

  pub clauses_mentions : View → List (List ℕ) → PlainClauses (List ℕ) (List ℕ) TypeName
      → List MentionAt
  clauses_mentions v stream p.no_clauses = []
  clauses_mentions v stream (p.more_clauses c cs) =
      clause_mentions v stream c
      ++ clauses_mentions (seeing v (after_clause v.variables c)) (after_clause stream c) cs

  pub group_var_mentions : View → List (List ℕ) → PlainGroupVar (List ℕ) (List ℕ) TypeName
      → List MentionAt
  group_var_mentions v stream (p.stream_group_var variable) =
      mention_at variable.place (groups_by variable.name stream) ∷ []
  group_var_mentions v stream (p.computed_group_var variable value) = mentions v value

  -- each key sees those to its left
  pub group_vars_mentions : View → List (List ℕ) → PlainGroupVars (List ℕ) (List ℕ) TypeName
      → List MentionAt
  group_vars_mentions v stream p.no_group_vars = []
  group_vars_mentions v stream (p.more_group_vars k ks) =
      group_var_mentions v stream k
      ++ group_vars_mentions (seeing v (after_key v.variables k)) stream ks

  pub order_key_mentions : View → PlainOrderKey (List ℕ) (List ℕ) TypeName → List MentionAt
  order_key_mentions v (p.order_key_node value descending empty_greatest) = mentions v value

  pub order_keys_mentions : View → PlainOrderKeys (List ℕ) (List ℕ) TypeName → List MentionAt
  order_keys_mentions v p.no_order_keys = []
  order_keys_mentions v (p.more_order_keys k ks) =
      order_key_mentions v k ++ order_keys_mentions v ks

-- the declared variables, behind these: each sees those before it, and no declared function
abbrev pub variables_mentions : List (List ℕ) → List (PlainVariable (List ℕ) (List ℕ) TypeName)
    → List MentionAt
variables_mentions earlier [] = []
variables_mentions earlier (x ∷ xs) =
    mention_at x.variable.place (declares_variable x.variable.name earlier)
    ∷ type_mentions x.type
    ++ mentions (record { variables = earlier; functions = []; item = false }) x.value
    ++ variables_mentions (x.variable.name ∷ earlier) xs

abbrev pub callee_of : PlainFunction (List ℕ) (List ℕ) TypeName → Callee
callee_of f = record { name = f.function.name; arity = length f.params }

-- the names of the parameters, behind these
abbrev pub after_params : List (List ℕ) → List (Param (List ℕ) TypeName) → List (List ℕ)
after_params names [] = names
after_params names (q ∷ qs) = after_params (q.variable.name ∷ names) qs

abbrev pub params_mentions : List (List ℕ) → List (Param (List ℕ) TypeName) → List MentionAt
params_mentions earlier [] = []
params_mentions earlier (q ∷ qs) =
    mention_at q.variable.place (declares_parameter q.variable.name earlier) ∷ type_mentions q.of
    ++ params_mentions (q.variable.name ∷ earlier) qs

-- the declared functions, behind these: the body of each sees its parameters and all that the
-- query's body sees
abbrev pub functions_mentions : View → List Callee → List (PlainFunction (List ℕ) (List ℕ) TypeName)
    → List MentionAt
functions_mentions v earlier [] = []
functions_mentions v earlier (f ∷ fs) =
    mention_at f.function.place (declares_function (callee_of f) earlier)
    ∷ params_mentions [] f.params
    ++ type_mentions f.type
    ++ mentions (seeing v (after_params v.variables f.params)) f.body
    ++ functions_mentions v (callee_of f ∷ earlier) fs

-- the names of the declared variables, where these are declared before them
abbrev pub after_variables : List (List ℕ) → List (PlainVariable (List ℕ) (List ℕ) TypeName)
    → List (List ℕ)
after_variables names [] = names
after_variables names (x ∷ xs) = after_variables (x.variable.name ∷ names) xs

-- what the body sees: all declarations
abbrev pub body_view : NamedQuery → View
body_view q = record {
  variables = after_variables [] q.variables;
  functions = map callee_of q.functions;
  item = false;
}

abbrev pub query_mentions : NamedQuery → List MentionAt
query_mentions q =
    variables_mentions [] q.variables ++ functions_mentions (body_view q) [] q.functions
    ++ mentions (body_view q) q.body
