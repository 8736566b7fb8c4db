-- A tree that is bound is bound over a frame that has a slot for each of its bindings.
use Rattle.std.proofs.Common.{◌≡◌, Bool, true, ◌&&◌, ℕ, List, [], ◌∷◌, ◌++◌, refl, ap, ◌∙◌}
use Rattle.std.specs.Cmp.Derive.{both_true}
use Rattle.std.proofs.lemmas.Bool.{and_parts}
use Rattle.seq_types.specs.declared.types.SeqType.{SeqType}
use Rattle.query_tree.specs.declared.bound.Slot.{Slot}
use Rattle.query_tree.specs.declared.bound.Target.{Target}
use Rattle.query_tree.specs.Plain as p
use Rattle.query_tree.specs.Plain.{Trees, Form, MaybeTree, PlainOperand, PlainOperands, PlainTerm, PlainTerms, PlainFactor, PlainFactors, PlainBind, PlainBinds, PlainCase, PlainCases, PlainTypeCase, PlainTypeCases, PlainCatch, PlainCatches, PlainPair, PlainPairs, PlainStep, PlainSteps, PlainLookup, PlainClause, PlainClauses, PlainGroupVar, PlainGroupVars, PlainOrderKey, PlainOrderKeys}
use Rattle.query_tree.specs.Scopes.{Scope, may_call, with_slot, with_any, with_item, is_cast_type}
use Rattle.query_tree.specs.Bound.{BoundTree, how_many, after_key, after_clause, after_clauses, after_bind, after_binds, is_bound, form_bound, content_bound, trees_bound, operand_bound, operands_bound, term_bound, terms_bound, factor_bound, factors_bound, bind_bound, binds_bound, case_bound, cases_bound, type_case_bound, type_cases_bound, catch_bound, catches_bound, pair_bound, pairs_bound, step_bound, steps_bound, lookup_bound, clause_bound, clauses_bound, group_var_bound, group_vars_bound, order_key_bound, order_keys_bound}
use Rattle.query_tree.specs.Binders.{any_name, binders, form_binders, content_binders, trees_binders, operand_binders, operands_binders, term_binders, terms_binders, factor_binders, factors_binders, bind_binders, binds_binders, case_binders, cases_binders, type_case_binders, type_cases_binders, catch_binders, catches_binders, pair_binders, pairs_binders, step_binders, steps_binders, lookup_binders, clause_binders, clauses_binders, group_var_binders, group_vars_binders, order_key_binders, order_keys_binders}
use Rattle.query_tree.proofs.Frames.{Fits, fit_parts, InFrame, framed, read-framed, slot-framed, slot_any-framed, call-framed, with_slot-fits, with_any-fits, with_any-framed, after_key-fits, after_key-framed, after_clause-fits, after_clause-framed, after_clauses-fits, after_clauses-framed, after_bind-fits, after_bind-framed, after_binds-fits, after_binds-framed}

-- a test of two parts passes over the frame where each part does
two : {width : ℕ} {x y v w : Bool} (vs ws : List Slot) → (x ≡ true → Fits width vs → v ≡ true) → (y ≡ true → Fits width ws → w ≡ true) → (x && y) ≡ true → Fits width (vs ++ ws) → (v && w) ≡ true
two {width} {x} {y} vs ws first second h a =
    let tests = and_parts x y h in
    let parts = fit_parts width vs ws a in
    both_true (first tests.0 parts.0) (second tests.1 parts.1)

-- the second part stands where the bindings of the first are seen
then : {width : ℕ} {x y v w : Bool} (vs ws : List Slot) → (x ≡ true → Fits width vs → v ≡ true) → (Fits width vs → y ≡ true → Fits width ws → w ≡ true) → (x && y) ≡ true → Fits width (vs ++ ws) → (v && w) ≡ true
then {width} {x} {y} vs ws first second h a =
    let tests = and_parts x y h in
    let parts = fit_parts width vs ws a in
    both_true (first tests.0 parts.0) (second parts.0 tests.1 parts.1)

-- the second test has no bindings
beside : {width : ℕ} {v : Bool} {vs : List Slot} (x w : Bool) → (x ≡ true → Fits width vs → v ≡ true) → (x && w) ≡ true → Fits width vs → (v && w) ≡ true
beside {width} {v} {vs} x w first h a =
    let tests = and_parts x w h in
    both_true (first tests.0 a) tests.1

tree_at : (s t : Scope) → s ≡ t → (x : BoundTree) → is_bound t x ≡ true → is_bound s x ≡ true
tree_at s t e x h = ap (λ r. is_bound r x) e ∙ h

binds_at : (s t : Scope) → s ≡ t → (xs : PlainBinds Slot Target SeqType) → binds_bound t xs ≡ true → binds_bound s xs ≡ true
binds_at s t e xs h = ap (λ r. binds_bound r xs) e ∙ h

clauses_at : (s t : Scope) → s ≡ t → (xs : PlainClauses Slot Target SeqType) → clauses_bound t xs ≡ true → clauses_bound s xs ≡ true
clauses_at s t e xs h = ap (λ r. clauses_bound r xs) e ∙ h

group_vars_at : (s t : Scope) → s ≡ t → (xs : PlainGroupVars Slot Target SeqType) → group_vars_bound t xs ≡ true → group_vars_bound s xs ≡ true
group_vars_at s t e xs h = ap (λ r. group_vars_bound r xs) e ∙ h

module _ (width : ℕ) where
  mutual
    pub tree-framed : (s : Scope) → InFrame width s.locals → (t : BoundTree) → is_bound s t ≡ true → Fits width (binders t) → is_bound (framed width s) t ≡ true
    tree-framed s f (p.tree_node place kind) h a = form-framed s f kind h a

    form-framed : (s : Scope) → InFrame width s.locals → (kind : Form Slot Target SeqType) → form_bound s kind ≡ true → Fits width (form_binders kind) → form_bound (framed width s) kind ≡ true
    form-framed s f (p.comma_form first rest) h a = two (binders first) (operands_binders rest) (tree-framed s f first) (operands-framed s f rest) h a
    form-framed s f (p.flwor_form clauses place result) h a = then (clauses_binders clauses) (binders result) (clauses-framed s f clauses) (λ c g b. tree_at _ _ (after_clauses-framed width s clauses) result (tree-framed (after_clauses s clauses) (after_clauses-fits width s clauses f c) result g b)) h a
    form-framed s f (p.quant_form quantifier binds test) h a = then (binds_binders binds) (binders test) (binds-framed s f binds) (λ c g b. tree_at _ _ (after_binds-framed width s binds) test (tree-framed (after_binds s binds) (after_binds-fits width s binds f c) test g b)) h a
    form-framed s f (p.switch_form operand cases default) h a = two (binders operand ++ cases_binders cases) (binders default) (two (binders operand) (cases_binders cases) (tree-framed s f operand) (cases-framed s f cases)) (tree-framed s f default) h a
    form-framed s f (p.typeswitch_form operand cases variable default) h a = then (binders operand ++ type_cases_binders cases ++ any_name variable) (binders default) (two (binders operand ++ type_cases_binders cases) (any_name variable) (two (binders operand) (type_cases_binders cases) (tree-framed s f operand) (type_cases-framed s f cases)) (slot_any-framed width s variable)) (λ c g b. tree_at _ _ (with_any-framed width s variable) default (tree-framed (with_any s variable) (with_any-fits width s variable f (fit_parts width (binders operand ++ type_cases_binders cases) (any_name variable) c).1) default g b)) h a
    form-framed s f (p.if_form condition when_true when_false) h a = two (binders condition ++ binders when_true) (binders when_false) (two (binders condition) (binders when_true) (tree-framed s f condition) (tree-framed s f when_true)) (tree-framed s f when_false) h a
    form-framed s f (p.try_form body catches) h a = two (binders body) (catches_binders catches) (tree-framed s f body) (catches-framed s f catches) h a
    form-framed s f (p.or_form first rest) h a = two (binders first) (operands_binders rest) (tree-framed s f first) (operands-framed s f rest) h a
    form-framed s f (p.and_form first rest) h a = two (binders first) (operands_binders rest) (tree-framed s f first) (operands-framed s f rest) h a
    form-framed s f (p.not_form operand) h a = tree-framed s f operand h a
    form-framed s f (p.compare_form left op place right) h a = two (binders left) (binders right) (tree-framed s f left) (tree-framed s f right) h a
    form-framed s f (p.concat_form first rest) h a = two (binders first) (operands_binders rest) (tree-framed s f first) (operands-framed s f rest) h a
    form-framed s f (p.range_form left place right) h a = two (binders left) (binders right) (tree-framed s f left) (tree-framed s f right) h a
    form-framed s f (p.sum_form first rest) h a = two (binders first) (terms_binders rest) (tree-framed s f first) (terms-framed s f rest) h a
    form-framed s f (p.product_form first rest) h a = two (binders first) (factors_binders rest) (tree-framed s f first) (factors-framed s f rest) h a
    form-framed s f (p.instance_form operand place t) h a = tree-framed s f operand h a
    form-framed s f (p.treat_form operand place t) h a = tree-framed s f operand h a
    form-framed s f (p.castable_form operand place t) h a = beside (is_bound s operand) (is_cast_type t.name) (tree-framed s f operand) h a
    form-framed s f (p.cast_form operand place t) h a = beside (is_bound s operand) (is_cast_type t.name) (tree-framed s f operand) h a
    form-framed s f (p.sign_form signs operand) h a = tree-framed s f operand h a
    form-framed s f (p.map_form first rest) h a = two (binders first) (operands_binders rest) (tree-framed s f first) (operands-framed (with_item s) f rest) h a
    form-framed s f (p.postfix_form primary steps) h a = two (binders primary) (steps_binders steps) (tree-framed s f primary) (steps-framed s f steps) h a
    form-framed s f (p.int_form value) h a = refl
    form-framed s f (p.dec_form value) h a = refl
    form-framed s f (p.text_form value) h a = refl
    form-framed s f p.true_form h a = refl
    form-framed s f p.false_form h a = refl
    form-framed s f p.null_form h a = refl
    form-framed s f (p.var_form variable) h a = read-framed width s variable f h
    form-framed s f p.context_form h a = h
    form-framed s f (p.paren_form content) h a = content-framed s f content h a
    form-framed s f (p.object_form pairs) h a = pairs-framed s f pairs h a
    form-framed s f (p.merge_form content) h a = content-framed s f content h a
    form-framed s f (p.array_form content) h a = content-framed s f content h a
    form-framed s f (p.call_form function arguments) h a = let parts = and_parts (may_call s function (how_many arguments)) (trees_bound s arguments) h in both_true (call-framed width s function (how_many arguments) parts.0) (trees-framed s f arguments parts.1 a)

    content-framed : (s : Scope) → InFrame width s.locals → (content : MaybeTree Slot Target SeqType) → content_bound s content ≡ true → Fits width (content_binders content) → content_bound (framed width s) content ≡ true
    content-framed s f p.no_tree h a = refl
    content-framed s f (p.one_tree t) h a = tree-framed s f t h a

    trees-framed : (s : Scope) → InFrame width s.locals → (xs : Trees Slot Target SeqType) → trees_bound s xs ≡ true → Fits width (trees_binders xs) → trees_bound (framed width s) xs ≡ true
    trees-framed s f p.no_trees h a = refl
    trees-framed s f (p.more_trees x xs) h a = two (binders x) (trees_binders xs) (tree-framed s f x) (trees-framed s f xs) h a

    operand-framed : (s : Scope) → InFrame width s.locals → (x : PlainOperand Slot Target SeqType) → operand_bound s x ≡ true → Fits width (operand_binders x) → operand_bound (framed width s) x ≡ true
    operand-framed s f (p.operand_node place value) h a = tree-framed s f value h a

    operands-framed : (s : Scope) → InFrame width s.locals → (xs : PlainOperands Slot Target SeqType) → operands_bound s xs ≡ true → Fits width (operands_binders xs) → operands_bound (framed width s) xs ≡ true
    operands-framed s f p.no_operands h a = refl
    operands-framed s f (p.more_operands x xs) h a = two (operand_binders x) (operands_binders xs) (operand-framed s f x) (operands-framed s f xs) h a

    term-framed : (s : Scope) → InFrame width s.locals → (x : PlainTerm Slot Target SeqType) → term_bound s x ≡ true → Fits width (term_binders x) → term_bound (framed width s) x ≡ true
    term-framed s f (p.term_node op place value) h a = tree-framed s f value h a

    terms-framed : (s : Scope) → InFrame width s.locals → (xs : PlainTerms Slot Target SeqType) → terms_bound s xs ≡ true → Fits width (terms_binders xs) → terms_bound (framed width s) xs ≡ true
    terms-framed s f p.no_terms h a = refl
    terms-framed s f (p.more_terms x xs) h a = two (term_binders x) (terms_binders xs) (term-framed s f x) (terms-framed s f xs) h a

    factor-framed : (s : Scope) → InFrame width s.locals → (x : PlainFactor Slot Target SeqType) → factor_bound s x ≡ true → Fits width (factor_binders x) → factor_bound (framed width s) x ≡ true
    factor-framed s f (p.factor_node op place value) h a = tree-framed s f value h a

    factors-framed : (s : Scope) → InFrame width s.locals → (xs : PlainFactors Slot Target SeqType) → factors_bound s xs ≡ true → Fits width (factors_binders xs) → factors_bound (framed width s) xs ≡ true
    factors-framed s f p.no_factors h a = refl
    factors-framed s f (p.more_factors x xs) h a = two (factor_binders x) (factors_binders xs) (factor-framed s f x) (factors-framed s f xs) h a

    bind-framed : (s : Scope) → InFrame width s.locals → (x : PlainBind Slot Target SeqType) → bind_bound s x ≡ true → Fits width (bind_binders x) → bind_bound (framed width s) x ≡ true
    bind-framed s f (p.bind_node variable t source) h a = two (variable.name ∷ []) (binders source) (slot-framed width s variable.name) (tree-framed s f source) h a

    binds-framed : (s : Scope) → InFrame width s.locals → (xs : PlainBinds Slot Target SeqType) → binds_bound s xs ≡ true → Fits width (binds_binders xs) → binds_bound (framed width s) xs ≡ true
    binds-framed s f p.no_binds h a = refl
    binds-framed s f (p.more_binds x xs) h a = then (bind_binders x) (binds_binders xs) (bind-framed s f x) (λ c g b. binds_at _ _ (after_bind-framed width s x) xs (binds-framed (after_bind s x) (after_bind-fits width s x f c) xs g b)) h a

    case-framed : (s : Scope) → InFrame width s.locals → (x : PlainCase Slot Target SeqType) → case_bound s x ≡ true → Fits width (case_binders x) → case_bound (framed width s) x ≡ true
    case-framed s f (p.case_node tests result) h a = two (trees_binders tests) (binders result) (trees-framed s f tests) (tree-framed s f result) h a

    cases-framed : (s : Scope) → InFrame width s.locals → (xs : PlainCases Slot Target SeqType) → cases_bound s xs ≡ true → Fits width (cases_binders xs) → cases_bound (framed width s) xs ≡ true
    cases-framed s f p.no_cases h a = refl
    cases-framed s f (p.more_cases x xs) h a = two (case_binders x) (cases_binders xs) (case-framed s f x) (cases-framed s f xs) h a

    type_case-framed : (s : Scope) → InFrame width s.locals → (x : PlainTypeCase Slot Target SeqType) → type_case_bound s x ≡ true → Fits width (type_case_binders x) → type_case_bound (framed width s) x ≡ true
    type_case-framed s f (p.type_case_node variable types result) h a = then (any_name variable) (binders result) (slot_any-framed width s variable) (λ c g b. tree_at _ _ (with_any-framed width s variable) result (tree-framed (with_any s variable) (with_any-fits width s variable f c) result g b)) h a

    type_cases-framed : (s : Scope) → InFrame width s.locals → (xs : PlainTypeCases Slot Target SeqType) → type_cases_bound s xs ≡ true → Fits width (type_cases_binders xs) → type_cases_bound (framed width s) xs ≡ true
    type_cases-framed s f p.no_type_cases h a = refl
    type_cases-framed s f (p.more_type_cases x xs) h a = two (type_case_binders x) (type_cases_binders xs) (type_case-framed s f x) (type_cases-framed s f xs) h a

    catch-framed : (s : Scope) → InFrame width s.locals → (x : PlainCatch Slot Target SeqType) → catch_bound s x ≡ true → Fits width (catch_binders x) → catch_bound (framed width s) x ≡ true
    catch-framed s f (p.catch_node error codes body) h a = then (error.name ∷ []) (binders body) (slot-framed width s error.name) (λ c g b. tree-framed (with_slot s error.name) (with_slot-fits width s error.name f c) body g b) h a

    catches-framed : (s : Scope) → InFrame width s.locals → (xs : PlainCatches Slot Target SeqType) → catches_bound s xs ≡ true → Fits width (catches_binders xs) → catches_bound (framed width s) xs ≡ true
    catches-framed s f p.no_catches h a = refl
    catches-framed s f (p.more_catches x xs) h a = two (catch_binders x) (catches_binders xs) (catch-framed s f x) (catches-framed s f xs) h a

    pair-framed : (s : Scope) → InFrame width s.locals → (x : PlainPair Slot Target SeqType) → pair_bound s x ≡ true → Fits width (pair_binders x) → pair_bound (framed width s) x ≡ true
    pair-framed s f (p.named_pair name place value) h a = tree-framed s f value h a
    pair-framed s f (p.computed_pair key place value) h a = two (binders key) (binders value) (tree-framed s f key) (tree-framed s f value) h a

    pairs-framed : (s : Scope) → InFrame width s.locals → (xs : PlainPairs Slot Target SeqType) → pairs_bound s xs ≡ true → Fits width (pairs_binders xs) → pairs_bound (framed width s) xs ≡ true
    pairs-framed s f p.no_pairs h a = refl
    pairs-framed s f (p.more_pairs x xs) h a = two (pair_binders x) (pairs_binders xs) (pair-framed s f x) (pairs-framed s f xs) h a

    step-framed : (s : Scope) → InFrame width s.locals → (x : PlainStep Slot Target SeqType) → step_bound s x ≡ true → Fits width (step_binders x) → step_bound (framed width s) x ≡ true
    step-framed s f (p.members_step place) h a = refl
    step-framed s f (p.member_step place position) h a = tree-framed s f position h a
    step-framed s f (p.filter_step place test) h a = tree-framed (with_item s) f test h a
    step-framed s f (p.field_step place key) h a = lookup-framed s f key h a

    steps-framed : (s : Scope) → InFrame width s.locals → (xs : PlainSteps Slot Target SeqType) → steps_bound s xs ≡ true → Fits width (steps_binders xs) → steps_bound (framed width s) xs ≡ true
    steps-framed s f p.no_steps h a = refl
    steps-framed s f (p.more_steps x xs) h a = two (step_binders x) (steps_binders xs) (step-framed s f x) (steps-framed s f xs) h a

    lookup-framed : (s : Scope) → InFrame width s.locals → (x : PlainLookup Slot Target SeqType) → lookup_bound s x ≡ true → Fits width (lookup_binders x) → lookup_bound (framed width s) x ≡ true
    lookup-framed s f (p.name_lookup name) h a = refl
    lookup-framed s f (p.text_lookup value) h a = refl
    lookup-framed s f (p.var_lookup variable) h a = read-framed width s variable.name f h
    lookup-framed s f (p.context_lookup place) h a = h
    lookup-framed s f (p.computed_lookup value) h a = tree-framed s f value h a

    clause-framed : (s : Scope) → InFrame width s.locals → (x : PlainClause Slot Target SeqType) → clause_bound s x ≡ true → Fits width (clause_binders x) → clause_bound (framed width s) x ≡ true
    clause-framed s f (p.for_clause variable t allowing_empty position source) h a = two (variable.name ∷ [] ++ any_name position) (binders source) (two (variable.name ∷ []) (any_name position) (slot-framed width s variable.name) (slot_any-framed width s position)) (tree-framed s f source) h a
    clause-framed s f (p.let_clause variable t value) h a = two (variable.name ∷ []) (binders value) (slot-framed width s variable.name) (tree-framed s f value) h a
    clause-framed s f (p.where_clause place test) h a = tree-framed s f test h a
    clause-framed s f (p.group_clause place keys) h a = group_vars-framed s f keys h a
    clause-framed s f (p.order_clause place stable keys) h a = order_keys-framed s f keys h a
    clause-framed s f (p.count_clause place variable) h a = slot-framed width s variable.name h a

    clauses-framed : (s : Scope) → InFrame width s.locals → (xs : PlainClauses Slot Target SeqType) → clauses_bound s xs ≡ true → Fits width (clauses_binders xs) → clauses_bound (framed width s) xs ≡ true
    clauses-framed s f p.no_clauses h a = refl
    clauses-framed s f (p.more_clauses x xs) h a = then (clause_binders x) (clauses_binders xs) (clause-framed s f x) (λ c g b. clauses_at _ _ (after_clause-framed width s x) xs (clauses-framed (after_clause s x) (after_clause-fits width s x f c) xs g b)) h a

    group_var-framed : (s : Scope) → InFrame width s.locals → (x : PlainGroupVar Slot Target SeqType) → group_var_bound s x ≡ true → Fits width (group_var_binders x) → group_var_bound (framed width s) x ≡ true
    group_var-framed s f (p.stream_group_var variable) h a = h
    group_var-framed s f (p.computed_group_var variable value) h a = two (variable.name ∷ []) (binders value) (slot-framed width s variable.name) (tree-framed s f value) h a

    group_vars-framed : (s : Scope) → InFrame width s.locals → (xs : PlainGroupVars Slot Target SeqType) → group_vars_bound s xs ≡ true → Fits width (group_vars_binders xs) → group_vars_bound (framed width s) xs ≡ true
    group_vars-framed s f p.no_group_vars h a = refl
    group_vars-framed s f (p.more_group_vars x xs) h a = then (group_var_binders x) (group_vars_binders xs) (group_var-framed s f x) (λ c g b. group_vars_at _ _ (after_key-framed width s x) xs (group_vars-framed (after_key s x) (after_key-fits width s x f c) xs g b)) h a

    order_key-framed : (s : Scope) → InFrame width s.locals → (x : PlainOrderKey Slot Target SeqType) → order_key_bound s x ≡ true → Fits width (order_key_binders x) → order_key_bound (framed width s) x ≡ true
    order_key-framed s f (p.order_key_node value descending empty_greatest) h a = tree-framed s f value h a

    order_keys-framed : (s : Scope) → InFrame width s.locals → (xs : PlainOrderKeys Slot Target SeqType) → order_keys_bound s xs ≡ true → Fits width (order_keys_binders xs) → order_keys_bound (framed width s) xs ≡ true
    order_keys-framed s f p.no_order_keys h a = refl
    order_keys-framed s f (p.more_order_keys x xs) h a = two (order_key_binders x) (order_keys_binders xs) (order_key-framed s f x) (order_keys-framed s f xs) h a
