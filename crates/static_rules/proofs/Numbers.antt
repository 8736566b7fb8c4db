-- The bindings of a compiled expression have the numbers from its first one on, in text order.
use Rattle.std.proofs.Common.{◌≡◌, ℕ, zero, suc, ◌+◌, ◌<◌, ◌≤◌, ◌==◌, true, false, ◌||◌, not, Option, Some, None, List, [], ◌∷◌, ◌++◌, length, refl, ap, sym, subst, ◌∙◌, arith, length-append}
use Rattle.std.specs.Prelude.{nat_lt}
use Rattle.std.specs.List.{list_all, list_any}
use Rattle.std.specs.Cmp.Derive.{both_true}
use Rattle.std.proofs.lemmas.Bool.Decides.{nat_tests}
use Rattle.query_tree.specs.declared.bound.Slot.{Slot}
use Rattle.query_tree.specs.declared.bound.Slot.TheVariants.{Local}
use Rattle.query_tree.specs.declared.module.Param.{Param}
use Rattle.query_tree.specs.declared.names.Placed.{Placed}
use Rattle.query_tree.specs.declared.names.TypeName.{TypeName}
use Rattle.query_tree.specs.Plain as p
use Rattle.query_tree.specs.Plain.{Form, MaybeTree, PlainOperand, PlainOperands, PlainTerm, PlainTerms, PlainFactor, PlainFactors, PlainBind, PlainBinds, PlainCase, PlainCases, PlainTypeCase, PlainTypeCases, PlainCatch, PlainCatches, PlainPair, PlainPairs, PlainStep, PlainSteps, PlainLookup, PlainClause, PlainClauses, PlainGroupVar, PlainGroupVars, PlainOrderKey, PlainOrderKeys}
use Rattle.query_tree.specs.Bindings.{numbers_of}
use Rattle.query_tree.specs.Compiled.{all_differ, are_apart}
use Rattle.query_tree.proofs.SlotNumbers.{numbers-append}
use Rattle.static_rules.specs.Laws.{count_from}
use Rattle.query_tree.specs.NamedViews.{NamedTree}
use Rattle.static_rules.specs.Views.{NamedTrees}
use Rattle.query_tree.specs.Binders
use Rattle.static_rules.specs.Compiling.{Names, with_slot, with_any, any_binding, past, after_key, after_clause, after_clauses, after_bind, after_binds, compiled, compiled_form, compiled_content, compiled_trees, compiled_operand, compiled_operands, compiled_term, compiled_terms, compiled_factor, compiled_factors, compiled_bind, compiled_binds, compiled_case, compiled_cases, compiled_type_case, compiled_type_cases, compiled_catch, compiled_catches, compiled_pair, compiled_pairs, compiled_step, compiled_steps, compiled_lookup, compiled_clause, compiled_clauses, compiled_group_var, compiled_group_vars, compiled_order_key, compiled_order_keys, compiled_params}

-- the numbers are as many as the elements, and begin with this one
pub record Counted {V : Type 0} (n : ℕ) (xs : List V) (vs : List Slot) : Type 0 where
  pub all : numbers_of vs ≡ count_from n (length xs)

pub none : {V : Type 0} (n : ℕ) → Counted {V = V} n [] []
unfolding count_from
none n = record { all = refl }

pub more : {V : Type 0} {n : ℕ} {xs : List V} {vs : List Slot} (x : V) → Counted (n + 1) xs vs → Counted n (x ∷ xs) (Local n ∷ vs)
unfolding count_from
more {n = n} x h = record { all = ap (λ ms. n ∷ ms) h.all }

count_from-append : (n j k : ℕ) → count_from n j ++ count_from (n + j) k ≡ count_from n (j + k)
unfolding count_from
count_from-append n zero k = let e : n + zero ≡ n = omega arith in let f : zero + k ≡ k = omega arith in ap (λ m. count_from m k) e ∙ ap (count_from n) (sym f)
count_from-append n (suc j) k =
    let e : n + suc j ≡ (n + 1) + j = omega arith in
    let f : suc j + k ≡ suc (j + k) = omega arith in
    ap (λ m. n ∷ (count_from (n + 1) j ++ count_from m k)) e ∙ ap (λ ms. n ∷ ms) (count_from-append (n + 1) j k) ∙ ap (count_from n) (sym f)

-- the numbers of two parts, one behind the other
pub joined : (n j k : ℕ) {ks ls : List ℕ} → ks ≡ count_from n j → ls ≡ count_from (n + j) k → ks ++ ls ≡ count_from n (j + k)
joined n j k {ks = ks} {ls = ls} e f = ap (λ ms. ms ++ ls) e ∙ ap (λ ms. count_from n j ++ ms) f ∙ count_from-append n j k

two : {V : Type 0} {n : ℕ} {xs ys : List V} {ks ls : List Slot} → Counted n xs ks → Counted (past n xs) ys ls → Counted n (xs ++ ys) (ks ++ ls)
two {n = n} {xs = xs} {ys = ys} {ks = ks} {ls = ls} h g = record { all = numbers-append ks ls ∙ joined n (length xs) (length ys) h.all g.all ∙ ap (count_from n) (sym (length-append xs ys)) }

-- the same from an equal number on
starts : {V : Type 0} {m n : ℕ} {xs : List V} {vs : List Slot} → m ≡ n → Counted m xs vs → Counted n xs vs
starts {xs = xs} {vs = vs} e h = subst (λ k. Counted k xs vs) e h

past-append : {V : Type 0} (n : ℕ) (xs ys : List V) → past (past n xs) ys ≡ past n (xs ++ ys)
past-append n xs ys = let e = length-append xs ys in omega (arith, e)

three : {V : Type 0} {n : ℕ} {xs ys zs : List V} {ks ls ms : List Slot} → Counted n xs ks → Counted (past n xs) ys ls → Counted (past (past n xs) ys) zs ms → Counted n (xs ++ ys ++ zs) (ks ++ ls ++ ms)
three {n = n} {xs = xs} {ys = ys} h g f = two (two h g) (starts (past-append n xs ys) f)

four : {V : Type 0} {n : ℕ} {xs ys zs ws : List V} {ks ls ms os : List Slot} → Counted n xs ks → Counted (past n xs) ys ls → Counted (past (past n xs) ys) zs ms → Counted (past (past (past n xs) ys) zs) ws os → Counted n (xs ++ ys ++ zs ++ ws) (ks ++ ls ++ ms ++ os)
four {n = n} {xs = xs} {ys = ys} {zs = zs} h g f e = two (three h g f) (starts (ap (λ m. past m zs) (past-append n xs ys) ∙ past-append n (xs ++ ys) zs) e)

any-counted : (n : ℕ) (x : Option (Placed (List ℕ))) → Counted n (Binders.any_name x) (Binders.any_name (any_binding x n))
any-counted n None = none n
any-counted n (Some x) = more x.name (none (n + 1))

mutual
  pub tree-counted : (s : Names) (n : ℕ) (x : NamedTree) → Counted n (Binders.binders x) (Binders.binders (compiled s n x))
  tree-counted s n (p.tree_node place kind) = form-counted s n kind

  form-counted : (s : Names) (n : ℕ) (x : Form (List ℕ) (List ℕ) TypeName) → Counted n (Binders.form_binders x) (Binders.form_binders (compiled_form s n x))
  form-counted s n (p.comma_form first rest) = two (tree-counted s n first) (operands-counted s (past n (Binders.binders first)) rest)
  form-counted s n (p.flwor_form clauses place result) = two (clauses-counted s n clauses) (tree-counted (after_clauses s n clauses) (past n (Binders.clauses_binders clauses)) result)
  form-counted s n (p.quant_form quantifier binds test) = two (binds-counted s n binds) (tree-counted (after_binds s n binds) (past n (Binders.binds_binders binds)) test)
  form-counted s n (p.switch_form operand cases default) = three (tree-counted s n operand) (cases-counted s (past n (Binders.binders operand)) cases) (tree-counted s (past (past n (Binders.binders operand)) (Binders.cases_binders cases)) default)
  form-counted s n (p.typeswitch_form operand cases variable default) =
      let m = past n (Binders.binders operand) in
      let l = past m (Binders.type_cases_binders cases) in
      four (tree-counted s n operand) (type_cases-counted s m cases) (any-counted l variable) (tree-counted (with_any s variable l) (past l (Binders.any_name variable)) default)
  form-counted s n (p.if_form condition when_true when_false) = three (tree-counted s n condition) (tree-counted s (past n (Binders.binders condition)) when_true) (tree-counted s (past (past n (Binders.binders condition)) (Binders.binders when_true)) when_false)
  form-counted s n (p.try_form body catches) = two (tree-counted s n body) (catches-counted s (past n (Binders.binders body)) catches)
  form-counted s n (p.or_form first rest) = two (tree-counted s n first) (operands-counted s (past n (Binders.binders first)) rest)
  form-counted s n (p.and_form first rest) = two (tree-counted s n first) (operands-counted s (past n (Binders.binders first)) rest)
  form-counted s n (p.not_form operand) = tree-counted s n operand
  form-counted s n (p.compare_form left op place right) = two (tree-counted s n left) (tree-counted s (past n (Binders.binders left)) right)
  form-counted s n (p.concat_form first rest) = two (tree-counted s n first) (operands-counted s (past n (Binders.binders first)) rest)
  form-counted s n (p.range_form left place right) = two (tree-counted s n left) (tree-counted s (past n (Binders.binders left)) right)
  form-counted s n (p.sum_form first rest) = two (tree-counted s n first) (terms-counted s (past n (Binders.binders first)) rest)
  form-counted s n (p.product_form first rest) = two (tree-counted s n first) (factors-counted s (past n (Binders.binders first)) rest)
  form-counted s n (p.instance_form operand place t) = tree-counted s n operand
  form-counted s n (p.treat_form operand place t) = tree-counted s n operand
  form-counted s n (p.castable_form operand place t) = tree-counted s n operand
  form-counted s n (p.cast_form operand place t) = tree-counted s n operand
  form-counted s n (p.sign_form signs operand) = tree-counted s n operand
  form-counted s n (p.map_form first rest) = two (tree-counted s n first) (operands-counted s (past n (Binders.binders first)) rest)
  form-counted s n (p.postfix_form primary steps) = two (tree-counted s n primary) (steps-counted s (past n (Binders.binders primary)) steps)
  form-counted s n (p.int_form value) = none n
  form-counted s n (p.dec_form value) = none n
  form-counted s n (p.text_form value) = none n
  form-counted s n p.true_form = none n
  form-counted s n p.false_form = none n
  form-counted s n p.null_form = none n
  form-counted s n (p.var_form variable) = none n
  form-counted s n p.context_form = none n
  form-counted s n (p.paren_form content) = content-counted s n content
  form-counted s n (p.object_form pairs) = pairs-counted s n pairs
  form-counted s n (p.merge_form content) = content-counted s n content
  form-counted s n (p.array_form content) = content-counted s n content
  form-counted s n (p.call_form function arguments) = trees-counted s n arguments

  content-counted : (s : Names) (n : ℕ) (x : MaybeTree (List ℕ) (List ℕ) TypeName) → Counted n (Binders.content_binders x) (Binders.content_binders (compiled_content s n x))
  content-counted s n p.no_tree = none n
  content-counted s n (p.one_tree t) = tree-counted s n t

  trees-counted : (s : Names) (n : ℕ) (x : NamedTrees) → Counted n (Binders.trees_binders x) (Binders.trees_binders (compiled_trees s n x))
  trees-counted s n p.no_trees = none n
  trees-counted s n (p.more_trees x xs) = two (tree-counted s n x) (trees-counted s (past n (Binders.binders x)) xs)

  operand-counted : (s : Names) (n : ℕ) (x : PlainOperand (List ℕ) (List ℕ) TypeName) → Counted n (Binders.operand_binders x) (Binders.operand_binders (compiled_operand s n x))
  operand-counted s n (p.operand_node place value) = tree-counted s n value

  operands-counted : (s : Names) (n : ℕ) (x : PlainOperands (List ℕ) (List ℕ) TypeName) → Counted n (Binders.operands_binders x) (Binders.operands_binders (compiled_operands s n x))
  operands-counted s n p.no_operands = none n
  operands-counted s n (p.more_operands x xs) = two (operand-counted s n x) (operands-counted s (past n (Binders.operand_binders x)) xs)

  term-counted : (s : Names) (n : ℕ) (x : PlainTerm (List ℕ) (List ℕ) TypeName) → Counted n (Binders.term_binders x) (Binders.term_binders (compiled_term s n x))
  term-counted s n (p.term_node op place value) = tree-counted s n value

  terms-counted : (s : Names) (n : ℕ) (x : PlainTerms (List ℕ) (List ℕ) TypeName) → Counted n (Binders.terms_binders x) (Binders.terms_binders (compiled_terms s n x))
  terms-counted s n p.no_terms = none n
  terms-counted s n (p.more_terms x xs) = two (term-counted s n x) (terms-counted s (past n (Binders.term_binders x)) xs)

  factor-counted : (s : Names) (n : ℕ) (x : PlainFactor (List ℕ) (List ℕ) TypeName) → Counted n (Binders.factor_binders x) (Binders.factor_binders (compiled_factor s n x))
  factor-counted s n (p.factor_node op place value) = tree-counted s n value

  factors-counted : (s : Names) (n : ℕ) (x : PlainFactors (List ℕ) (List ℕ) TypeName) → Counted n (Binders.factors_binders x) (Binders.factors_binders (compiled_factors s n x))
  factors-counted s n p.no_factors = none n
  factors-counted s n (p.more_factors x xs) = two (factor-counted s n x) (factors-counted s (past n (Binders.factor_binders x)) xs)

  bind-counted : (s : Names) (n : ℕ) (x : PlainBind (List ℕ) (List ℕ) TypeName) → Counted n (Binders.bind_binders x) (Binders.bind_binders (compiled_bind s n x))
  bind-counted s n (p.bind_node variable t source) = more variable.name (tree-counted s (n + 1) source)

  binds-counted : (s : Names) (n : ℕ) (x : PlainBinds (List ℕ) (List ℕ) TypeName) → Counted n (Binders.binds_binders x) (Binders.binds_binders (compiled_binds s n x))
  binds-counted s n p.no_binds = none n
  binds-counted s n (p.more_binds x xs) = two (bind-counted s n x) (binds-counted (after_bind s n x) (past n (Binders.bind_binders x)) xs)

  case-counted : (s : Names) (n : ℕ) (x : PlainCase (List ℕ) (List ℕ) TypeName) → Counted n (Binders.case_binders x) (Binders.case_binders (compiled_case s n x))
  case-counted s n (p.case_node tests result) = two (trees-counted s n tests) (tree-counted s (past n (Binders.trees_binders tests)) result)

  cases-counted : (s : Names) (n : ℕ) (x : PlainCases (List ℕ) (List ℕ) TypeName) → Counted n (Binders.cases_binders x) (Binders.cases_binders (compiled_cases s n x))
  cases-counted s n p.no_cases = none n
  cases-counted s n (p.more_cases x xs) = two (case-counted s n x) (cases-counted s (past n (Binders.case_binders x)) xs)

  type_case-counted : (s : Names) (n : ℕ) (x : PlainTypeCase (List ℕ) (List ℕ) TypeName) → Counted n (Binders.type_case_binders x) (Binders.type_case_binders (compiled_type_case s n x))
  type_case-counted s n (p.type_case_node variable types result) = two (any-counted n variable) (tree-counted (with_any s variable n) (past n (Binders.any_name variable)) result)

  type_cases-counted : (s : Names) (n : ℕ) (x : PlainTypeCases (List ℕ) (List ℕ) TypeName) → Counted n (Binders.type_cases_binders x) (Binders.type_cases_binders (compiled_type_cases s n x))
  type_cases-counted s n p.no_type_cases = none n
  type_cases-counted s n (p.more_type_cases x xs) = two (type_case-counted s n x) (type_cases-counted s (past n (Binders.type_case_binders x)) xs)

  catch-counted : (s : Names) (n : ℕ) (x : PlainCatch (List ℕ) (List ℕ) TypeName) → Counted n (Binders.catch_binders x) (Binders.catch_binders (compiled_catch s n x))
  catch-counted s n (p.catch_node error codes body) = more error.name (tree-counted (with_slot s error.name (Local n)) (n + 1) body)

  catches-counted : (s : Names) (n : ℕ) (x : PlainCatches (List ℕ) (List ℕ) TypeName) → Counted n (Binders.catches_binders x) (Binders.catches_binders (compiled_catches s n x))
  catches-counted s n p.no_catches = none n
  catches-counted s n (p.more_catches x xs) = two (catch-counted s n x) (catches-counted s (past n (Binders.catch_binders x)) xs)

  pair-counted : (s : Names) (n : ℕ) (x : PlainPair (List ℕ) (List ℕ) TypeName) → Counted n (Binders.pair_binders x) (Binders.pair_binders (compiled_pair s n x))
  pair-counted s n (p.named_pair name place value) = tree-counted s n value
  pair-counted s n (p.computed_pair key place value) = two (tree-counted s n key) (tree-counted s (past n (Binders.binders key)) value)

  pairs-counted : (s : Names) (n : ℕ) (x : PlainPairs (List ℕ) (List ℕ) TypeName) → Counted n (Binders.pairs_binders x) (Binders.pairs_binders (compiled_pairs s n x))
  pairs-counted s n p.no_pairs = none n
  pairs-counted s n (p.more_pairs x xs) = two (pair-counted s n x) (pairs-counted s (past n (Binders.pair_binders x)) xs)

  step-counted : (s : Names) (n : ℕ) (x : PlainStep (List ℕ) (List ℕ) TypeName) → Counted n (Binders.step_binders x) (Binders.step_binders (compiled_step s n x))
  step-counted s n (p.members_step place) = none n
  step-counted s n (p.member_step place position) = tree-counted s n position
  step-counted s n (p.filter_step place test) = tree-counted s n test
  step-counted s n (p.field_step place key) = lookup-counted s n key

  steps-counted : (s : Names) (n : ℕ) (x : PlainSteps (List ℕ) (List ℕ) TypeName) → Counted n (Binders.steps_binders x) (Binders.steps_binders (compiled_steps s n x))
  steps-counted s n p.no_steps = none n
  steps-counted s n (p.more_steps x xs) = two (step-counted s n x) (steps-counted s (past n (Binders.step_binders x)) xs)

  lookup-counted : (s : Names) (n : ℕ) (x : PlainLookup (List ℕ) (List ℕ) TypeName) → Counted n (Binders.lookup_binders x) (Binders.lookup_binders (compiled_lookup s n x))
  lookup-counted s n (p.name_lookup name) = none n
  lookup-counted s n (p.text_lookup value) = none n
  lookup-counted s n (p.var_lookup variable) = none n
  lookup-counted s n (p.context_lookup place) = none n
  lookup-counted s n (p.computed_lookup value) = tree-counted s n value

  clause-counted : (s : Names) (n : ℕ) (x : PlainClause (List ℕ) (List ℕ) TypeName) → Counted n (Binders.clause_binders x) (Binders.clause_binders (compiled_clause s n x))
  clause-counted s n (p.for_clause variable t allowing_empty position source) = more variable.name (two (any-counted (n + 1) position) (tree-counted s (past (n + 1) (Binders.any_name position)) source))
  clause-counted s n (p.let_clause variable t value) = more variable.name (tree-counted s (n + 1) value)
  clause-counted s n (p.where_clause place test) = tree-counted s n test
  clause-counted s n (p.group_clause place keys) = group_vars-counted s s n keys
  clause-counted s n (p.order_clause place stable keys) = order_keys-counted s n keys
  clause-counted s n (p.count_clause place variable) = more variable.name (none (n + 1))

  clauses-counted : (s : Names) (n : ℕ) (x : PlainClauses (List ℕ) (List ℕ) TypeName) → Counted n (Binders.clauses_binders x) (Binders.clauses_binders (compiled_clauses s n x))
  clauses-counted s n p.no_clauses = none n
  clauses-counted s n (p.more_clauses x xs) = two (clause-counted s n x) (clauses-counted (after_clause s n x) (past n (Binders.clause_binders x)) xs)

  group_var-counted : (stream s : Names) (n : ℕ) (x : PlainGroupVar (List ℕ) (List ℕ) TypeName) → Counted n (Binders.group_var_binders x) (Binders.group_var_binders (compiled_group_var stream s n x))
  group_var-counted stream s n (p.stream_group_var variable) = more variable.name (none (n + 1))
  group_var-counted stream s n (p.computed_group_var variable value) = more variable.name (tree-counted s (n + 1) value)

  group_vars-counted : (stream s : Names) (n : ℕ) (x : PlainGroupVars (List ℕ) (List ℕ) TypeName) → Counted n (Binders.group_vars_binders x) (Binders.group_vars_binders (compiled_group_vars stream s n x))
  group_vars-counted stream s n p.no_group_vars = none n
  group_vars-counted stream s n (p.more_group_vars x xs) = two (group_var-counted stream s n x) (group_vars-counted stream (after_key s n x) (past n (Binders.group_var_binders x)) xs)

  order_key-counted : (s : Names) (n : ℕ) (x : PlainOrderKey (List ℕ) (List ℕ) TypeName) → Counted n (Binders.order_key_binders x) (Binders.order_key_binders (compiled_order_key s n x))
  order_key-counted s n (p.order_key_node value descending empty_greatest) = tree-counted s n value

  order_keys-counted : (s : Names) (n : ℕ) (x : PlainOrderKeys (List ℕ) (List ℕ) TypeName) → Counted n (Binders.order_keys_binders x) (Binders.order_keys_binders (compiled_order_keys s n x))
  order_keys-counted s n p.no_order_keys = none n
  order_keys-counted s n (p.more_order_keys x xs) = two (order_key-counted s n x) (order_keys-counted s (past n (Binders.order_key_binders x)) xs)

-- and so have the parameters of a function
pub params-counted : (n : ℕ) (qs : List (Param (List ℕ) TypeName)) → Counted n qs (Binders.params_binders (compiled_params n qs))
params-counted n [] = none n
params-counted n (q ∷ qs) = more q (params-counted (n + 1) qs)

-- numbers that count up from one on are all different, and below one behind the last
later_differ : (n m k : ℕ) → n < m → list_any (λ j. j == n) (count_from m k) ≡ false
unfolding count_from
later_differ n m zero h = refl
later_differ n m (suc k) h =
    let e : (m == n) ≡ false = grind (arith, nat_tests) in
    ap (λ b. b || list_any (λ j. j == n) (count_from (m + 1) k)) e ∙ later_differ n (m + 1) k (omega arith)

count_from-differ : (n k : ℕ) → all_differ (count_from n k) ≡ true
unfolding count_from
count_from-differ n zero = refl
count_from-differ n (suc k) = both_true (ap not (later_differ n (n + 1) k (omega arith))) (count_from-differ (n + 1) k)

count_from-below : (width n k : ℕ) → n + k ≤ width → list_all (λ m. nat_lt m width) (count_from n k) ≡ true
unfolding count_from
count_from-below width n zero h = refl
count_from-below width n (suc k) h =
    let e : nat_lt n width ≡ true = grind (arith, nat_tests) in
    both_true e (count_from-below width (n + 1) k (omega arith))

pub counted-apart : {ns : List ℕ} (width k : ℕ) → ns ≡ count_from 0 k → k ≤ width → are_apart width ns ≡ true
counted-apart width k e h = ap (are_apart width) e ∙ both_true (count_from-below width 0 k (omega arith)) (count_from-differ 0 k)
