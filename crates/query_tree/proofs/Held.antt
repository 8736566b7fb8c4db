-- Written by tools/plain_trees.py from the types of src/. Change those, and run it again.
-- The trees in a node are those of the trees that it holds. For other crates too.
use Rattle.std.proofs.Common.{◌≡◌, List, [], ◌∷◌, ◌++◌, map, refl, sym, ap, ◌∙◌}
use Rattle.std.specs.List.{flat_map}
use Rattle.query_tree.specs.declared.expr.Expr.{Expr}
use Rattle.query_tree.specs.declared.clause.Clause.{Clause}
use Rattle.query_tree.specs.declared.clause.GroupVar.{GroupVar}
use Rattle.query_tree.specs.declared.clause.OrderKey.{OrderKey}
use Rattle.query_tree.specs.declared.part.Operand.{Operand}
use Rattle.query_tree.specs.declared.part.Term.{Term}
use Rattle.query_tree.specs.declared.part.Factor.{Factor}
use Rattle.query_tree.specs.declared.part.Bind.{Bind}
use Rattle.query_tree.specs.declared.part.Case.{Case}
use Rattle.query_tree.specs.declared.part.TypeCase.{TypeCase}
use Rattle.query_tree.specs.declared.part.Catch.{Catch}
use Rattle.query_tree.specs.declared.part.Pair.{Pair}
use Rattle.query_tree.specs.declared.step.Step.{Step}
use Rattle.std.proofs.lemmas.List.Concat.{flat_map-append}
use Rattle.std.proofs.lemmas.List.{append-nil}
use Rattle.query_tree.specs.Plain as p
use Rattle.query_tree.specs.Plain.{Tree, PlainGroupVar, PlainOrderKey, PlainOperand, PlainTerm, PlainFactor, PlainBind, PlainCase, PlainTypeCase, PlainCatch, PlainPair, PlainLookup, PlainStep, PlainClause, Form, PlainClauses, Trees, PlainGroupVars, PlainOrderKeys, PlainOperands, PlainTerms, PlainFactors, PlainBinds, PlainCases, PlainTypeCases, PlainCatches, PlainPairs, PlainSteps, MaybeTree}
use Rattle.query_tree.specs.Subtrees.{children, subtrees, group_var_children, group_var_subtrees, order_key_children, order_key_subtrees, operand_children, operand_subtrees, term_children, term_subtrees, factor_children, factor_subtrees, bind_children, bind_subtrees, case_children, case_subtrees, type_case_children, type_case_subtrees, catch_children, catch_subtrees, pair_children, pair_subtrees, lookup_children, lookup_subtrees, step_children, step_subtrees, clause_children, clause_subtrees, form_children, form_subtrees, clauses_children, clauses_subtrees, trees_children, trees_subtrees, group_vars_children, group_vars_subtrees, order_keys_children, order_keys_subtrees, operands_children, operands_subtrees, terms_children, terms_subtrees, factors_children, factors_subtrees, binds_children, binds_subtrees, cases_children, cases_subtrees, type_cases_children, type_cases_subtrees, catches_children, catches_subtrees, pairs_children, pairs_subtrees, steps_children, steps_subtrees, content_children, content_subtrees}

-- these trees are those in the trees that are held
pub record IsHeld (V F T : Type 0) (inside held : List (Tree V F T)) : Type 0 where
  pub same : inside ≡ flat_map subtrees held

module _ {V F T : Type 0} where
  none : IsHeld V F T [] []
  none = record { same = refl }

  one : (t : Tree V F T) → IsHeld V F T (subtrees t) (t ∷ [])
  one t = record { same = sym (append-nil (subtrees t)) }

  both : {us vs xs ys : List (Tree V F T)} → IsHeld V F T us xs → IsHeld V F T vs ys → IsHeld V F T (us ++ vs) (xs ++ ys)
  both {us} {vs} {xs} {ys} d e = record { same = ap (λ zs. zs ++ vs) d.same ∙ ap (λ zs. flat_map subtrees xs ++ zs) e.same ∙ sym (flat_map-append subtrees xs ys) }

  pub content-held : (x : MaybeTree V F T) → IsHeld V F T (content_subtrees x) (content_children x)
  content-held p.no_tree = none
  content-held (p.one_tree t) = one t

  pub trees-held : (x : Trees V F T) → IsHeld V F T (trees_subtrees x) (trees_children x)
  trees-held p.no_trees = none
  trees-held (p.more_trees x xs) = both (one x) (trees-held xs)

  pub group_var-held : (x : PlainGroupVar V F T) → IsHeld V F T (group_var_subtrees x) (group_var_children x)
  group_var-held (p.stream_group_var variable) = none
  group_var-held (p.computed_group_var variable value) = one value

  pub group_vars-held : (x : PlainGroupVars V F T) → IsHeld V F T (group_vars_subtrees x) (group_vars_children x)
  group_vars-held p.no_group_vars = none
  group_vars-held (p.more_group_vars x xs) = both (group_var-held x) (group_vars-held xs)

  pub order_key-held : (x : PlainOrderKey V F T) → IsHeld V F T (order_key_subtrees x) (order_key_children x)
  order_key-held (p.order_key_node value descending empty_greatest) = one value

  pub order_keys-held : (x : PlainOrderKeys V F T) → IsHeld V F T (order_keys_subtrees x) (order_keys_children x)
  order_keys-held p.no_order_keys = none
  order_keys-held (p.more_order_keys x xs) = both (order_key-held x) (order_keys-held xs)

  pub operand-held : (x : PlainOperand V F T) → IsHeld V F T (operand_subtrees x) (operand_children x)
  operand-held (p.operand_node place value) = one value

  pub operands-held : (x : PlainOperands V F T) → IsHeld V F T (operands_subtrees x) (operands_children x)
  operands-held p.no_operands = none
  operands-held (p.more_operands x xs) = both (operand-held x) (operands-held xs)

  pub term-held : (x : PlainTerm V F T) → IsHeld V F T (term_subtrees x) (term_children x)
  term-held (p.term_node op place value) = one value

  pub terms-held : (x : PlainTerms V F T) → IsHeld V F T (terms_subtrees x) (terms_children x)
  terms-held p.no_terms = none
  terms-held (p.more_terms x xs) = both (term-held x) (terms-held xs)

  pub factor-held : (x : PlainFactor V F T) → IsHeld V F T (factor_subtrees x) (factor_children x)
  factor-held (p.factor_node op place value) = one value

  pub factors-held : (x : PlainFactors V F T) → IsHeld V F T (factors_subtrees x) (factors_children x)
  factors-held p.no_factors = none
  factors-held (p.more_factors x xs) = both (factor-held x) (factors-held xs)

  pub bind-held : (x : PlainBind V F T) → IsHeld V F T (bind_subtrees x) (bind_children x)
  bind-held (p.bind_node variable t source) = one source

  pub binds-held : (x : PlainBinds V F T) → IsHeld V F T (binds_subtrees x) (binds_children x)
  binds-held p.no_binds = none
  binds-held (p.more_binds x xs) = both (bind-held x) (binds-held xs)

  pub case-held : (x : PlainCase V F T) → IsHeld V F T (case_subtrees x) (case_children x)
  case-held (p.case_node tests result) = both (trees-held tests) (one result)

  pub cases-held : (x : PlainCases V F T) → IsHeld V F T (cases_subtrees x) (cases_children x)
  cases-held p.no_cases = none
  cases-held (p.more_cases x xs) = both (case-held x) (cases-held xs)

  pub type_case-held : (x : PlainTypeCase V F T) → IsHeld V F T (type_case_subtrees x) (type_case_children x)
  type_case-held (p.type_case_node variable types result) = one result

  pub type_cases-held : (x : PlainTypeCases V F T) → IsHeld V F T (type_cases_subtrees x) (type_cases_children x)
  type_cases-held p.no_type_cases = none
  type_cases-held (p.more_type_cases x xs) = both (type_case-held x) (type_cases-held xs)

  pub catch-held : (x : PlainCatch V F T) → IsHeld V F T (catch_subtrees x) (catch_children x)
  catch-held (p.catch_node error codes body) = one body

  pub catches-held : (x : PlainCatches V F T) → IsHeld V F T (catches_subtrees x) (catches_children x)
  catches-held p.no_catches = none
  catches-held (p.more_catches x xs) = both (catch-held x) (catches-held xs)

  pub pair-held : (x : PlainPair V F T) → IsHeld V F T (pair_subtrees x) (pair_children x)
  pair-held (p.named_pair name place value) = one value
  pair-held (p.computed_pair key place value) = both (one key) (one value)

  pub pairs-held : (x : PlainPairs V F T) → IsHeld V F T (pairs_subtrees x) (pairs_children x)
  pairs-held p.no_pairs = none
  pairs-held (p.more_pairs x xs) = both (pair-held x) (pairs-held xs)

  pub lookup-held : (x : PlainLookup V F T) → IsHeld V F T (lookup_subtrees x) (lookup_children x)
  lookup-held (p.name_lookup name) = none
  lookup-held (p.text_lookup value) = none
  lookup-held (p.var_lookup variable) = none
  lookup-held (p.context_lookup place) = none
  lookup-held (p.computed_lookup value) = one value

  pub step-held : (x : PlainStep V F T) → IsHeld V F T (step_subtrees x) (step_children x)
  step-held (p.members_step place) = none
  step-held (p.member_step place position) = one position
  step-held (p.filter_step place test) = one test
  step-held (p.field_step place key) = lookup-held key

  pub steps-held : (x : PlainSteps V F T) → IsHeld V F T (steps_subtrees x) (steps_children x)
  steps-held p.no_steps = none
  steps-held (p.more_steps x xs) = both (step-held x) (steps-held xs)

  pub clause-held : (x : PlainClause V F T) → IsHeld V F T (clause_subtrees x) (clause_children x)
  clause-held (p.for_clause variable t allowing_empty position source) = one source
  clause-held (p.let_clause variable t value) = one value
  clause-held (p.where_clause place test) = one test
  clause-held (p.group_clause place keys) = group_vars-held keys
  clause-held (p.order_clause place stable keys) = order_keys-held keys
  clause-held (p.count_clause place variable) = none

  pub clauses-held : (x : PlainClauses V F T) → IsHeld V F T (clauses_subtrees x) (clauses_children x)
  clauses-held p.no_clauses = none
  clauses-held (p.more_clauses x xs) = both (clause-held x) (clauses-held xs)

  pub form-held : (x : Form V F T) → IsHeld V F T (form_subtrees x) (form_children x)
  form-held (p.comma_form first rest) = both (one first) (operands-held rest)
  form-held (p.flwor_form clauses place result) = both (clauses-held clauses) (one result)
  form-held (p.quant_form quantifier binds test) = both (binds-held binds) (one test)
  form-held (p.switch_form operand cases default) = both (both (one operand) (cases-held cases)) (one default)
  form-held (p.typeswitch_form operand cases variable default) = both (both (one operand) (type_cases-held cases)) (one default)
  form-held (p.if_form condition when_true when_false) = both (both (one condition) (one when_true)) (one when_false)
  form-held (p.try_form body catches) = both (one body) (catches-held catches)
  form-held (p.or_form first rest) = both (one first) (operands-held rest)
  form-held (p.and_form first rest) = both (one first) (operands-held rest)
  form-held (p.not_form operand) = one operand
  form-held (p.compare_form left op place right) = both (one left) (one right)
  form-held (p.concat_form first rest) = both (one first) (operands-held rest)
  form-held (p.range_form left place right) = both (one left) (one right)
  form-held (p.sum_form first rest) = both (one first) (terms-held rest)
  form-held (p.product_form first rest) = both (one first) (factors-held rest)
  form-held (p.instance_form operand place t) = one operand
  form-held (p.treat_form operand place t) = one operand
  form-held (p.castable_form operand place t) = one operand
  form-held (p.cast_form operand place t) = one operand
  form-held (p.sign_form signs operand) = one operand
  form-held (p.map_form first rest) = both (one first) (operands-held rest)
  form-held (p.postfix_form primary steps) = both (one primary) (steps-held steps)
  form-held (p.int_form value) = none
  form-held (p.dec_form value) = none
  form-held (p.text_form value) = none
  form-held p.true_form = none
  form-held p.false_form = none
  form-held p.null_form = none
  form-held (p.var_form variable) = none
  form-held p.context_form = none
  form-held (p.paren_form content) = content-held content
  form-held (p.object_form pairs) = pairs-held pairs
  form-held (p.merge_form content) = content-held content
  form-held (p.array_form content) = content-held content
  form-held (p.call_form function arguments) = trees-held arguments

  pub clauses-listed : (xs : List (Clause V F T)) → flat_map (λ (x : Clause V F T). clause_children (p.clause_of V F T x)) xs ≡ clauses_children (p.clauses_of V F T (map (p.clause_of V F T) xs))
  clauses-listed [] = refl
  clauses-listed (x ∷ xs) = ap (λ ys. clause_children (p.clause_of V F T x) ++ ys) (clauses-listed xs)

  pub trees-listed : (xs : List (Expr V F T)) → flat_map (λ (x : Expr V F T). p.tree_of V F T x ∷ []) xs ≡ trees_children (p.trees_of V F T (map (p.tree_of V F T) xs))
  trees-listed [] = refl
  trees-listed (x ∷ xs) = ap (λ ys. p.tree_of V F T x ∷ ys) (trees-listed xs)

  pub group_vars-listed : (xs : List (GroupVar V (Expr V F T))) → flat_map (λ (x : GroupVar V (Expr V F T)). group_var_children (p.group_var_of V F T x)) xs ≡ group_vars_children (p.group_vars_of V F T (map (p.group_var_of V F T) xs))
  group_vars-listed [] = refl
  group_vars-listed (x ∷ xs) = ap (λ ys. group_var_children (p.group_var_of V F T x) ++ ys) (group_vars-listed xs)

  pub order_keys-listed : (xs : List (OrderKey (Expr V F T))) → flat_map (λ (x : OrderKey (Expr V F T)). order_key_children (p.order_key_of V F T x)) xs ≡ order_keys_children (p.order_keys_of V F T (map (p.order_key_of V F T) xs))
  order_keys-listed [] = refl
  order_keys-listed (x ∷ xs) = ap (λ ys. order_key_children (p.order_key_of V F T x) ++ ys) (order_keys-listed xs)

  pub operands-listed : (xs : List (Operand (Expr V F T))) → flat_map (λ (x : Operand (Expr V F T)). operand_children (p.operand_of V F T x)) xs ≡ operands_children (p.operands_of V F T (map (p.operand_of V F T) xs))
  operands-listed [] = refl
  operands-listed (x ∷ xs) = ap (λ ys. operand_children (p.operand_of V F T x) ++ ys) (operands-listed xs)

  pub terms-listed : (xs : List (Term (Expr V F T))) → flat_map (λ (x : Term (Expr V F T)). term_children (p.term_of V F T x)) xs ≡ terms_children (p.terms_of V F T (map (p.term_of V F T) xs))
  terms-listed [] = refl
  terms-listed (x ∷ xs) = ap (λ ys. term_children (p.term_of V F T x) ++ ys) (terms-listed xs)

  pub factors-listed : (xs : List (Factor (Expr V F T))) → flat_map (λ (x : Factor (Expr V F T)). factor_children (p.factor_of V F T x)) xs ≡ factors_children (p.factors_of V F T (map (p.factor_of V F T) xs))
  factors-listed [] = refl
  factors-listed (x ∷ xs) = ap (λ ys. factor_children (p.factor_of V F T x) ++ ys) (factors-listed xs)

  pub binds-listed : (xs : List (Bind V T (Expr V F T))) → flat_map (λ (x : Bind V T (Expr V F T)). bind_children (p.bind_of V F T x)) xs ≡ binds_children (p.binds_of V F T (map (p.bind_of V F T) xs))
  binds-listed [] = refl
  binds-listed (x ∷ xs) = ap (λ ys. bind_children (p.bind_of V F T x) ++ ys) (binds-listed xs)

  pub cases-listed : (xs : List (Case (Expr V F T))) → flat_map (λ (x : Case (Expr V F T)). case_children (p.case_of V F T x)) xs ≡ cases_children (p.cases_of V F T (map (p.case_of V F T) xs))
  cases-listed [] = refl
  cases-listed (x ∷ xs) = ap (λ ys. case_children (p.case_of V F T x) ++ ys) (cases-listed xs)

  pub type_cases-listed : (xs : List (TypeCase V T (Expr V F T))) → flat_map (λ (x : TypeCase V T (Expr V F T)). type_case_children (p.type_case_of V F T x)) xs ≡ type_cases_children (p.type_cases_of V F T (map (p.type_case_of V F T) xs))
  type_cases-listed [] = refl
  type_cases-listed (x ∷ xs) = ap (λ ys. type_case_children (p.type_case_of V F T x) ++ ys) (type_cases-listed xs)

  pub catches-listed : (xs : List (Catch V (Expr V F T))) → flat_map (λ (x : Catch V (Expr V F T)). catch_children (p.catch_of V F T x)) xs ≡ catches_children (p.catches_of V F T (map (p.catch_of V F T) xs))
  catches-listed [] = refl
  catches-listed (x ∷ xs) = ap (λ ys. catch_children (p.catch_of V F T x) ++ ys) (catches-listed xs)

  pub pairs-listed : (xs : List (Pair (Expr V F T))) → flat_map (λ (x : Pair (Expr V F T)). pair_children (p.pair_of V F T x)) xs ≡ pairs_children (p.pairs_of V F T (map (p.pair_of V F T) xs))
  pairs-listed [] = refl
  pairs-listed (x ∷ xs) = ap (λ ys. pair_children (p.pair_of V F T x) ++ ys) (pairs-listed xs)

  pub steps-listed : (xs : List (Step V (Expr V F T))) → flat_map (λ (x : Step V (Expr V F T)). step_children (p.step_of V F T x)) xs ≡ steps_children (p.steps_of V F T (map (p.step_of V F T) xs))
  steps-listed [] = refl
  steps-listed (x ∷ xs) = ap (λ ys. step_children (p.step_of V F T x) ++ ys) (steps-listed xs)

  pub tree-held : (t : Tree V F T) → subtrees t ≡ t ∷ flat_map subtrees (children t)
  tree-held (p.tree_node place kind) = ap (λ ts. p.tree_node place kind ∷ ts) (form-held kind).same

pub ruleset listed = (clauses-listed, trees-listed, group_vars-listed, order_keys-listed, operands-listed, terms-listed, factors-listed, binds-listed, cases-listed, type_cases-listed, catches-listed, pairs-listed, steps-listed)
