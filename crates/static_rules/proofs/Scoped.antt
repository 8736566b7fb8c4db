-- Where no mention of an expression breaks a rule, the compiled expression is bound.
use Rattle.std.proofs.Common.{◌≡◌, ℕ, ◌+◌, Bool, true, ◌&&◌, List, [], ◌∷◌, ◌++◌, refl}
use Rattle.std.specs.Cmp.Derive.{both_true}
use Rattle.query_tree.specs.declared.names.TypeName.{TypeName}
use Rattle.query_tree.specs.Plain as p
use Rattle.query_tree.specs.Plain.{Form, MaybeTree, PlainOperand, PlainOperands, PlainTerm, PlainTerms, PlainFactor, PlainFactors, PlainBind, PlainBinds, PlainCase, PlainCases, PlainTypeCase, PlainTypeCases, PlainCatch, PlainCatches, PlainPair, PlainPairs, PlainStep, PlainSteps, PlainLookup, PlainClause, PlainClauses, PlainGroupVar, PlainGroupVars, PlainOrderKey, PlainOrderKeys}
use Rattle.query_tree.specs.Scopes.{Scope}
use Rattle.query_tree.specs.Bound.{is_bound, form_bound, content_bound, trees_bound, operand_bound, operands_bound, term_bound, terms_bound, factor_bound, factors_bound, bind_bound, binds_bound, case_bound, cases_bound, type_case_bound, type_cases_bound, catch_bound, catches_bound, pair_bound, pairs_bound, step_bound, steps_bound, lookup_bound, clause_bound, clauses_bound, group_var_bound, group_vars_bound, order_key_bound, order_keys_bound}
use Rattle.static_rules.specs.Views
use Rattle.query_tree.specs.NamedViews.{NamedTree}
use Rattle.static_rules.specs.Views.{NamedTrees, View, with_name, with_item, seeing, and_any}
use Rattle.static_rules.specs.Mentions.{MentionAt, mention_at, calls, has_type, casts_to, types_mentions, type_mentions, position_mentions, mentions, form_mentions, content_mentions, trees_mentions, operand_mentions, operands_mentions, term_mentions, terms_mentions, factor_mentions, factors_mentions, bind_mentions, binds_mentions, case_mentions, cases_mentions, type_case_mentions, type_cases_mentions, catch_mentions, catches_mentions, pair_mentions, pairs_mentions, step_mentions, steps_mentions, lookup_mentions, clause_mentions, clauses_mentions, group_var_mentions, group_vars_mentions, order_key_mentions, order_keys_mentions}
use Rattle.query_tree.specs.Binders
use Rattle.static_rules.specs.Compiling.{Names, past, compiled, compiled_form, compiled_content, compiled_trees, compiled_operand, compiled_operands, compiled_term, compiled_terms, compiled_factor, compiled_factors, compiled_bind, compiled_binds, compiled_case, compiled_cases, compiled_type_case, compiled_type_cases, compiled_catch, compiled_catches, compiled_pair, compiled_pairs, compiled_step, compiled_steps, compiled_lookup, compiled_clause, compiled_clauses, compiled_group_var, compiled_group_vars, compiled_order_key, compiled_order_keys}
use Rattle.static_rules.proofs.Agreement.{Clean, clean_parts, clean_first, read_bound, item_bound, group_bound, cast_type, Agrees, call-passes, with_slot-agrees, with_any-agrees, with_item-agrees, slot_bound, any_bound, after_key-agrees, after_clause-agrees, after_clauses-agrees, after_bind-agrees, after_binds-agrees, Within, within_none, within-clause, StreamReads, stream_reads, after_key-reads}

-- a test of two parts passes where each part does
two : {x y : Bool} (ms ns : List MentionAt) → (Clean ms → x ≡ true) → (Clean ns → y ≡ true) → Clean (ms ++ ns) → (x && y) ≡ true
two ms ns first second h =
    let parts = clean_parts ms ns h in
    both_true (first parts.0) (second parts.1)

mutual
  pub tree-passes : (n : ℕ) {s : Names} {v : View} {c : Scope} → Agrees s v c → (x : NamedTree) → Clean (mentions v x) → is_bound c (compiled s n x) ≡ true
  tree-passes n a (p.tree_node place kind) h = form-passes n place a kind h

  form-passes : (n : ℕ) (here : ℕ) {s : Names} {v : View} {c : Scope} → Agrees s v c → (x : Form (List ℕ) (List ℕ) TypeName) → Clean (form_mentions v here x) → form_bound c (compiled_form s n x) ≡ true
  form-passes n here {v = v} a (p.comma_form first rest) h = two (mentions v first) (operands_mentions v rest) (tree-passes n a first) (operands-passes (past n (Binders.binders first)) a rest) h
  form-passes n here {v = v} a (p.flwor_form clauses place result) h = two (clauses_mentions v [] clauses) (mentions (seeing v (Views.after_clauses v.variables clauses)) result) (clauses-passes n a within_none clauses) (tree-passes (past n (Binders.clauses_binders clauses)) (after_clauses-agrees n a clauses) result) h
  form-passes n here {v = v} a (p.quant_form quantifier binds test) h = two (binds_mentions v binds) (mentions (seeing v (Views.after_binds v.variables binds)) test) (binds-passes n a binds) (tree-passes (past n (Binders.binds_binders binds)) (after_binds-agrees n a binds) test) h
  form-passes n here {v = v} a (p.switch_form operand cases default) h = two (mentions v operand ++ cases_mentions v cases) (mentions v default) (two (mentions v operand) (cases_mentions v cases) (tree-passes n a operand) (cases-passes (past n (Binders.binders operand)) a cases)) (tree-passes (past (past n (Binders.binders operand)) (Binders.cases_binders cases)) a default) h
  form-passes n here {v = v} a (p.typeswitch_form operand cases variable default) h =
      let m = past n (Binders.binders operand) in
      let l = past m (Binders.type_cases_binders cases) in
      two (mentions v operand ++ type_cases_mentions v cases) (mentions (seeing v (and_any v.variables variable)) default) (λ g. both_true (two (mentions v operand) (type_cases_mentions v cases) (tree-passes n a operand) (type_cases-passes m a cases) g) (any_bound l a variable)) (tree-passes (past l (Binders.any_name variable)) (with_any-agrees l a variable) default) h
  form-passes n here {v = v} a (p.if_form condition when_true when_false) h = two (mentions v condition ++ mentions v when_true) (mentions v when_false) (two (mentions v condition) (mentions v when_true) (tree-passes n a condition) (tree-passes (past n (Binders.binders condition)) a when_true)) (tree-passes (past (past n (Binders.binders condition)) (Binders.binders when_true)) a when_false) h
  form-passes n here {v = v} a (p.try_form body catches) h = two (mentions v body) (catches_mentions v catches) (tree-passes n a body) (catches-passes (past n (Binders.binders body)) a catches) h
  form-passes n here {v = v} a (p.or_form first rest) h = two (mentions v first) (operands_mentions v rest) (tree-passes n a first) (operands-passes (past n (Binders.binders first)) a rest) h
  form-passes n here {v = v} a (p.and_form first rest) h = two (mentions v first) (operands_mentions v rest) (tree-passes n a first) (operands-passes (past n (Binders.binders first)) a rest) h
  form-passes n here a (p.not_form operand) h = tree-passes n a operand h
  form-passes n here {v = v} a (p.compare_form left op place right) h = two (mentions v left) (mentions v right) (tree-passes n a left) (tree-passes (past n (Binders.binders left)) a right) h
  form-passes n here {v = v} a (p.concat_form first rest) h = two (mentions v first) (operands_mentions v rest) (tree-passes n a first) (operands-passes (past n (Binders.binders first)) a rest) h
  form-passes n here {v = v} a (p.range_form left place right) h = two (mentions v left) (mentions v right) (tree-passes n a left) (tree-passes (past n (Binders.binders left)) a right) h
  form-passes n here {v = v} a (p.sum_form first rest) h = two (mentions v first) (terms_mentions v rest) (tree-passes n a first) (terms-passes (past n (Binders.binders first)) a rest) h
  form-passes n here {v = v} a (p.product_form first rest) h = two (mentions v first) (factors_mentions v rest) (tree-passes n a first) (factors-passes (past n (Binders.binders first)) a rest) h
  form-passes n here {v = v} a (p.instance_form operand place t) h = tree-passes n a operand (clean_parts (mentions v operand) (mention_at t.place (has_type t.name) ∷ []) h).0
  form-passes n here {v = v} a (p.treat_form operand place t) h = tree-passes n a operand (clean_parts (mentions v operand) (mention_at t.place (has_type t.name) ∷ []) h).0
  form-passes n here {v = v} a (p.castable_form operand place t) h = two (mentions v operand) (mention_at t.place (casts_to t.name) ∷ []) (tree-passes n a operand) (λ g. cast_type t.name (clean_first g)) h
  form-passes n here {v = v} a (p.cast_form operand place t) h = two (mentions v operand) (mention_at t.place (casts_to t.name) ∷ []) (tree-passes n a operand) (λ g. cast_type t.name (clean_first g)) h
  form-passes n here a (p.sign_form signs operand) h = tree-passes n a operand h
  form-passes n here {v = v} a (p.map_form first rest) h = two (mentions v first) (operands_mentions (with_item v) rest) (tree-passes n a first) (operands-passes (past n (Binders.binders first)) (with_item-agrees a) rest) h
  form-passes n here {v = v} a (p.postfix_form primary steps) h = two (mentions v primary) (steps_mentions v steps) (tree-passes n a primary) (steps-passes (past n (Binders.binders primary)) a steps) h
  form-passes n here a (p.int_form value) h = refl
  form-passes n here a (p.dec_form value) h = refl
  form-passes n here a (p.text_form value) h = refl
  form-passes n here a p.true_form h = refl
  form-passes n here a p.false_form h = refl
  form-passes n here a p.null_form h = refl
  form-passes n here a (p.var_form variable) h = a.reads variable (read_bound (clean_first h))
  form-passes n here a p.context_form h = a.item (item_bound (clean_first h))
  form-passes n here a (p.paren_form content) h = content-passes n a content h
  form-passes n here a (p.object_form pairs) h = pairs-passes n a pairs h
  form-passes n here a (p.merge_form content) h = content-passes n a content h
  form-passes n here a (p.array_form content) h = content-passes n a content h
  form-passes n here {v = v} a (p.call_form function arguments) h = let parts = clean_parts (mention_at here (calls function arguments v.functions) ∷ []) (trees_mentions v arguments) h in both_true (call-passes n a function arguments (clean_first parts.0)) (trees-passes n a arguments parts.1)

  content-passes : (n : ℕ) {s : Names} {v : View} {c : Scope} → Agrees s v c → (x : MaybeTree (List ℕ) (List ℕ) TypeName) → Clean (content_mentions v x) → content_bound c (compiled_content s n x) ≡ true
  content-passes n a p.no_tree h = refl
  content-passes n a (p.one_tree t) h = tree-passes n a t h

  trees-passes : (n : ℕ) {s : Names} {v : View} {c : Scope} → Agrees s v c → (x : NamedTrees) → Clean (trees_mentions v x) → trees_bound c (compiled_trees s n x) ≡ true
  trees-passes n a p.no_trees h = refl
  trees-passes n {v = v} a (p.more_trees x xs) h = two (mentions v x) (trees_mentions v xs) (tree-passes n a x) (trees-passes (past n (Binders.binders x)) a xs) h

  operand-passes : (n : ℕ) {s : Names} {v : View} {c : Scope} → Agrees s v c → (x : PlainOperand (List ℕ) (List ℕ) TypeName) → Clean (operand_mentions v x) → operand_bound c (compiled_operand s n x) ≡ true
  operand-passes n a (p.operand_node place value) h = tree-passes n a value h

  operands-passes : (n : ℕ) {s : Names} {v : View} {c : Scope} → Agrees s v c → (x : PlainOperands (List ℕ) (List ℕ) TypeName) → Clean (operands_mentions v x) → operands_bound c (compiled_operands s n x) ≡ true
  operands-passes n a p.no_operands h = refl
  operands-passes n {v = v} a (p.more_operands x xs) h = two (operand_mentions v x) (operands_mentions v xs) (operand-passes n a x) (operands-passes (past n (Binders.operand_binders x)) a xs) h

  term-passes : (n : ℕ) {s : Names} {v : View} {c : Scope} → Agrees s v c → (x : PlainTerm (List ℕ) (List ℕ) TypeName) → Clean (term_mentions v x) → term_bound c (compiled_term s n x) ≡ true
  term-passes n a (p.term_node op place value) h = tree-passes n a value h

  terms-passes : (n : ℕ) {s : Names} {v : View} {c : Scope} → Agrees s v c → (x : PlainTerms (List ℕ) (List ℕ) TypeName) → Clean (terms_mentions v x) → terms_bound c (compiled_terms s n x) ≡ true
  terms-passes n a p.no_terms h = refl
  terms-passes n {v = v} a (p.more_terms x xs) h = two (term_mentions v x) (terms_mentions v xs) (term-passes n a x) (terms-passes (past n (Binders.term_binders x)) a xs) h

  factor-passes : (n : ℕ) {s : Names} {v : View} {c : Scope} → Agrees s v c → (x : PlainFactor (List ℕ) (List ℕ) TypeName) → Clean (factor_mentions v x) → factor_bound c (compiled_factor s n x) ≡ true
  factor-passes n a (p.factor_node op place value) h = tree-passes n a value h

  factors-passes : (n : ℕ) {s : Names} {v : View} {c : Scope} → Agrees s v c → (x : PlainFactors (List ℕ) (List ℕ) TypeName) → Clean (factors_mentions v x) → factors_bound c (compiled_factors s n x) ≡ true
  factors-passes n a p.no_factors h = refl
  factors-passes n {v = v} a (p.more_factors x xs) h = two (factor_mentions v x) (factors_mentions v xs) (factor-passes n a x) (factors-passes (past n (Binders.factor_binders x)) a xs) h

  bind-passes : (n : ℕ) {s : Names} {v : View} {c : Scope} → Agrees s v c → (x : PlainBind (List ℕ) (List ℕ) TypeName) → Clean (bind_mentions v x) → bind_bound c (compiled_bind s n x) ≡ true
  bind-passes n {v = v} a (p.bind_node variable t source) h = both_true (slot_bound n a) (tree-passes (n + 1) a source (clean_parts (type_mentions t) (mentions v source) h).1)

  binds-passes : (n : ℕ) {s : Names} {v : View} {c : Scope} → Agrees s v c → (x : PlainBinds (List ℕ) (List ℕ) TypeName) → Clean (binds_mentions v x) → binds_bound c (compiled_binds s n x) ≡ true
  binds-passes n a p.no_binds h = refl
  binds-passes n {v = v} a (p.more_binds x xs) h = two (bind_mentions v x) (binds_mentions (seeing v (Views.after_bind v.variables x)) xs) (bind-passes n a x) (binds-passes (past n (Binders.bind_binders x)) (after_bind-agrees n a x) xs) h

  case-passes : (n : ℕ) {s : Names} {v : View} {c : Scope} → Agrees s v c → (x : PlainCase (List ℕ) (List ℕ) TypeName) → Clean (case_mentions v x) → case_bound c (compiled_case s n x) ≡ true
  case-passes n {v = v} a (p.case_node tests result) h = two (trees_mentions v tests) (mentions v result) (trees-passes n a tests) (tree-passes (past n (Binders.trees_binders tests)) a result) h

  cases-passes : (n : ℕ) {s : Names} {v : View} {c : Scope} → Agrees s v c → (x : PlainCases (List ℕ) (List ℕ) TypeName) → Clean (cases_mentions v x) → cases_bound c (compiled_cases s n x) ≡ true
  cases-passes n a p.no_cases h = refl
  cases-passes n {v = v} a (p.more_cases x xs) h = two (case_mentions v x) (cases_mentions v xs) (case-passes n a x) (cases-passes (past n (Binders.case_binders x)) a xs) h

  type_case-passes : (n : ℕ) {s : Names} {v : View} {c : Scope} → Agrees s v c → (x : PlainTypeCase (List ℕ) (List ℕ) TypeName) → Clean (type_case_mentions v x) → type_case_bound c (compiled_type_case s n x) ≡ true
  type_case-passes n {v = v} a (p.type_case_node variable types result) h = both_true (any_bound n a variable) (tree-passes (past n (Binders.any_name variable)) (with_any-agrees n a variable) result (clean_parts (types_mentions types) (mentions (seeing v (and_any v.variables variable)) result) h).1)

  type_cases-passes : (n : ℕ) {s : Names} {v : View} {c : Scope} → Agrees s v c → (x : PlainTypeCases (List ℕ) (List ℕ) TypeName) → Clean (type_cases_mentions v x) → type_cases_bound c (compiled_type_cases s n x) ≡ true
  type_cases-passes n a p.no_type_cases h = refl
  type_cases-passes n {v = v} a (p.more_type_cases x xs) h = two (type_case_mentions v x) (type_cases_mentions v xs) (type_case-passes n a x) (type_cases-passes (past n (Binders.type_case_binders x)) a xs) h

  catch-passes : (n : ℕ) {s : Names} {v : View} {c : Scope} → Agrees s v c → (x : PlainCatch (List ℕ) (List ℕ) TypeName) → Clean (catch_mentions v x) → catch_bound c (compiled_catch s n x) ≡ true
  catch-passes n a (p.catch_node error codes body) h = both_true (slot_bound n a) (tree-passes (n + 1) (with_slot-agrees n error.name a) body h)

  catches-passes : (n : ℕ) {s : Names} {v : View} {c : Scope} → Agrees s v c → (x : PlainCatches (List ℕ) (List ℕ) TypeName) → Clean (catches_mentions v x) → catches_bound c (compiled_catches s n x) ≡ true
  catches-passes n a p.no_catches h = refl
  catches-passes n {v = v} a (p.more_catches x xs) h = two (catch_mentions v x) (catches_mentions v xs) (catch-passes n a x) (catches-passes (past n (Binders.catch_binders x)) a xs) h

  pair-passes : (n : ℕ) {s : Names} {v : View} {c : Scope} → Agrees s v c → (x : PlainPair (List ℕ) (List ℕ) TypeName) → Clean (pair_mentions v x) → pair_bound c (compiled_pair s n x) ≡ true
  pair-passes n a (p.named_pair name place value) h = tree-passes n a value h
  pair-passes n {v = v} a (p.computed_pair key place value) h = two (mentions v key) (mentions v value) (tree-passes n a key) (tree-passes (past n (Binders.binders key)) a value) h

  pairs-passes : (n : ℕ) {s : Names} {v : View} {c : Scope} → Agrees s v c → (x : PlainPairs (List ℕ) (List ℕ) TypeName) → Clean (pairs_mentions v x) → pairs_bound c (compiled_pairs s n x) ≡ true
  pairs-passes n a p.no_pairs h = refl
  pairs-passes n {v = v} a (p.more_pairs x xs) h = two (pair_mentions v x) (pairs_mentions v xs) (pair-passes n a x) (pairs-passes (past n (Binders.pair_binders x)) a xs) h

  step-passes : (n : ℕ) {s : Names} {v : View} {c : Scope} → Agrees s v c → (x : PlainStep (List ℕ) (List ℕ) TypeName) → Clean (step_mentions v x) → step_bound c (compiled_step s n x) ≡ true
  step-passes n a (p.members_step place) h = refl
  step-passes n a (p.member_step place position) h = tree-passes n a position h
  step-passes n a (p.filter_step place test) h = tree-passes n (with_item-agrees a) test h
  step-passes n a (p.field_step place key) h = lookup-passes n a key h

  steps-passes : (n : ℕ) {s : Names} {v : View} {c : Scope} → Agrees s v c → (x : PlainSteps (List ℕ) (List ℕ) TypeName) → Clean (steps_mentions v x) → steps_bound c (compiled_steps s n x) ≡ true
  steps-passes n a p.no_steps h = refl
  steps-passes n {v = v} a (p.more_steps x xs) h = two (step_mentions v x) (steps_mentions v xs) (step-passes n a x) (steps-passes (past n (Binders.step_binders x)) a xs) h

  lookup-passes : (n : ℕ) {s : Names} {v : View} {c : Scope} → Agrees s v c → (x : PlainLookup (List ℕ) (List ℕ) TypeName) → Clean (lookup_mentions v x) → lookup_bound c (compiled_lookup s n x) ≡ true
  lookup-passes n a (p.name_lookup name) h = refl
  lookup-passes n a (p.text_lookup value) h = refl
  lookup-passes n a (p.var_lookup variable) h = a.reads variable.name (read_bound (clean_first h))
  lookup-passes n a (p.context_lookup place) h = a.item (item_bound (clean_first h))
  lookup-passes n a (p.computed_lookup value) h = tree-passes n a value h

  clause-passes : (n : ℕ) {s : Names} {names : List (List ℕ)} {v : View} {c : Scope} → Agrees s v c → Within names v.variables → (x : PlainClause (List ℕ) (List ℕ) TypeName) → Clean (clause_mentions v names x) → clause_bound c (compiled_clause s n x) ≡ true
  clause-passes n {v = v} a w (p.for_clause variable t allowing_empty position source) h = both_true (both_true (slot_bound n a) (any_bound (n + 1) a position)) (tree-passes (past (n + 1) (Binders.any_name position)) a source (clean_parts (type_mentions t ++ position_mentions variable position) (mentions v source) h).1)
  clause-passes n {v = v} a w (p.let_clause variable t value) h = both_true (slot_bound n a) (tree-passes (n + 1) a value (clean_parts (type_mentions t) (mentions v value) h).1)
  clause-passes n a w (p.where_clause place test) h = tree-passes n a test h
  clause-passes n a w (p.group_clause place keys) h = group_vars-passes n a (stream_reads a w) keys h
  clause-passes n a w (p.order_clause place stable keys) h = order_keys-passes n a keys h
  clause-passes n a w (p.count_clause place variable) h = slot_bound n a

  clauses-passes : (n : ℕ) {s : Names} {names : List (List ℕ)} {v : View} {c : Scope} → Agrees s v c → Within names v.variables → (x : PlainClauses (List ℕ) (List ℕ) TypeName) → Clean (clauses_mentions v names x) → clauses_bound c (compiled_clauses s n x) ≡ true
  clauses-passes n a w p.no_clauses h = refl
  clauses-passes n {names = names} {v = v} a w (p.more_clauses x xs) h = two (clause_mentions v names x) (clauses_mentions (seeing v (Views.after_clause v.variables x)) (Views.after_clause names x) xs) (clause-passes n a w x) (clauses-passes (past n (Binders.clause_binders x)) (after_clause-agrees n a x) (within-clause w x) xs) h

  group_var-passes : (n : ℕ) {stream s : Names} {names : List (List ℕ)} {v : View} {c : Scope} → Agrees s v c → StreamReads stream names c → (x : PlainGroupVar (List ℕ) (List ℕ) TypeName) → Clean (group_var_mentions v names x) → group_var_bound c (compiled_group_var stream s n x) ≡ true
  group_var-passes n a w (p.stream_group_var variable) h = both_true (slot_bound n a) (w.reads variable.name (group_bound (clean_first h)))
  group_var-passes n a w (p.computed_group_var variable value) h = both_true (slot_bound n a) (tree-passes (n + 1) a value h)

  group_vars-passes : (n : ℕ) {stream s : Names} {names : List (List ℕ)} {v : View} {c : Scope} → Agrees s v c → StreamReads stream names c → (x : PlainGroupVars (List ℕ) (List ℕ) TypeName) → Clean (group_vars_mentions v names x) → group_vars_bound c (compiled_group_vars stream s n x) ≡ true
  group_vars-passes n a w p.no_group_vars h = refl
  group_vars-passes n {stream = stream} {s = s} {names = names} {v = v} a w (p.more_group_vars x xs) h = two (group_var_mentions v names x) (group_vars_mentions (seeing v (Views.after_key v.variables x)) names xs) (group_var-passes n a w x) (group_vars-passes (past n (Binders.group_var_binders x)) (after_key-agrees stream n a x) (after_key-reads s n w x) xs) h

  order_key-passes : (n : ℕ) {s : Names} {v : View} {c : Scope} → Agrees s v c → (x : PlainOrderKey (List ℕ) (List ℕ) TypeName) → Clean (order_key_mentions v x) → order_key_bound c (compiled_order_key s n x) ≡ true
  order_key-passes n a (p.order_key_node value descending empty_greatest) h = tree-passes n a value h

  order_keys-passes : (n : ℕ) {s : Names} {v : View} {c : Scope} → Agrees s v c → (x : PlainOrderKeys (List ℕ) (List ℕ) TypeName) → Clean (order_keys_mentions v x) → order_keys_bound c (compiled_order_keys s n x) ≡ true
  order_keys-passes n a p.no_order_keys h = refl
  order_keys-passes n {v = v} a (p.more_order_keys x xs) h = two (order_key_mentions v x) (order_keys_mentions v xs) (order_key-passes n a x) (order_keys-passes (past n (Binders.order_key_binders x)) a xs) h
