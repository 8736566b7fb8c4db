-- What is bound over frames of a width reads no slot beyond them.
use Rattle.std.proofs.Common.{◌≡◌, ℕ, ◌&&◌, Bool, true, List, [], ◌∷◌, ◌++◌, Option, Some, None, ap, subst}
use Rattle.std.specs.Prelude.{nat_lt}
use Rattle.std.specs.List.{AllByRecursion, flat_map}
use Rattle.std.proofs.lemmas.Bool.{and_parts, false≢true}
use Rattle.seq_types.specs.declared.types.SeqType.{SeqType}
use Rattle.query_tree.specs.declared.bound.Slot.{Slot}
use Rattle.query_tree.specs.declared.bound.Slot.TheVariants.{Local, Global}
use Rattle.query_tree.specs.declared.bound.Target.{Target}
use Rattle.query_tree.specs.declared.bound.Target.TheVariants.{Built, Own, Lines}
use Rattle.query_tree.specs.declared.names.Placed.{Placed}
use Rattle.query_tree.specs.Plain as p
use Rattle.query_tree.specs.Plain.{Trees, Form, MaybeTree, PlainOperand, PlainOperands, PlainTerm, PlainTerms, PlainFactor, PlainFactors, PlainBind, PlainBinds, PlainCase, PlainCases, PlainTypeCase, PlainTypeCases, PlainCatch, PlainCatches, PlainPair, PlainPairs, PlainStep, PlainSteps, PlainLookup, PlainClause, PlainClauses, PlainGroupVar, PlainGroupVars, PlainOrderKey, PlainOrderKeys}
use Rattle.query_tree.specs.Scopes.{below, Scope, has_local, may_read, may_bind, may_bind_any, may_call, and_local, with_slot, with_any, with_item, is_cast_type}
use Rattle.query_tree.specs.Scoped.{key_slot}
use Rattle.query_tree.specs.Bound.{BoundTree, how_many, after_key, after_keys, after_clause, after_clauses, after_bind, after_binds, is_bound, form_bound, content_bound, trees_bound, operand_bound, operands_bound, term_bound, terms_bound, factor_bound, factors_bound, bind_bound, binds_bound, case_bound, cases_bound, type_case_bound, type_cases_bound, catch_bound, catches_bound, pair_bound, pairs_bound, step_bound, steps_bound, lookup_bound, clause_bound, clauses_bound, group_var_bound, group_vars_bound, order_key_bound, order_keys_bound}
use Rattle.query_tree.specs.Subtrees.{subtrees, form_subtrees, content_subtrees, trees_subtrees, operand_subtrees, operands_subtrees, term_subtrees, terms_subtrees, factor_subtrees, factors_subtrees, bind_subtrees, binds_subtrees, case_subtrees, cases_subtrees, type_case_subtrees, type_cases_subtrees, catch_subtrees, catches_subtrees, pair_subtrees, pairs_subtrees, step_subtrees, steps_subtrees, lookup_subtrees, clause_subtrees, clauses_subtrees, group_var_subtrees, group_vars_subtrees, order_key_subtrees, order_keys_subtrees}
use Rattle.query_meaning.specs.Sources.{Source, of_variable, keys_sources, clause_sources, clauses_sources, lookup_sources, step_sources, steps_sources, target_sources, form_sources, own_sources, sources}
use Rattle.meaning_laws.proofs.Alike.{Within}
use Rattle.meaning_laws.proofs.Calling.{of_joined}

module _ (width : ℕ) where
  -- a source that is a slot of the frame, or none at all
  abbrev pub Below : Source → Type 0
  Below (of_variable (Local n)) = nat_lt n width ≡ true
  Below _ = Unit {0}

  abbrev pub Small : BoundTree → Type 0
  Small t = AllByRecursion Below (own_sources t)

  two : (x y : Bool) (us vs : List BoundTree) → (x ≡ true → Within Small us) → (y ≡ true → Within Small vs) → (x && y) ≡ true → Within Small (us ++ vs)
  two x y us vs first second h =
      let hs = and_parts x y h in
      of_joined Small us vs (first hs.0) (second hs.1)

  -- ---- scopes over the frame

  with_slot-below : (s : Scope) (v : Slot) → s.locals ≡ below width → (with_slot s v).locals ≡ below width
  with_slot-below s v b = ap (λ l. and_local l v) b

  with_any-below : (s : Scope) (v : Option (Placed Slot)) → s.locals ≡ below width → (with_any s v).locals ≡ below width
  with_any-below s None b = b
  with_any-below s (Some v) b = with_slot-below s v.name b

  after_keys-below : (s : Scope) (ks : PlainGroupVars Slot Target SeqType) → s.locals ≡ below width → (after_keys s ks).locals ≡ below width
  after_keys-below s p.no_group_vars b = b
  after_keys-below s (p.more_group_vars k ks) b = after_keys-below (after_key s k) ks (with_slot-below s (key_slot k) b)

  after_clause-below : (s : Scope) (c : PlainClause Slot Target SeqType) → s.locals ≡ below width → (after_clause s c).locals ≡ below width
  after_clause-below s (p.for_clause variable t allowing_empty position source) b = with_any-below (with_slot s variable.name) position (with_slot-below s variable.name b)
  after_clause-below s (p.let_clause variable t value) b = with_slot-below s variable.name b
  after_clause-below s (p.where_clause place test) b = b
  after_clause-below s (p.group_clause place keys) b = after_keys-below s keys b
  after_clause-below s (p.order_clause place stable keys) b = b
  after_clause-below s (p.count_clause place variable) b = with_slot-below s variable.name b

  after_clauses-below : (s : Scope) (cs : PlainClauses Slot Target SeqType) → s.locals ≡ below width → (after_clauses s cs).locals ≡ below width
  after_clauses-below s p.no_clauses b = b
  after_clauses-below s (p.more_clauses c cs) b = after_clauses-below (after_clause s c) cs (after_clause-below s c b)

  after_bind-below : (s : Scope) (x : PlainBind Slot Target SeqType) → s.locals ≡ below width → (after_bind s x).locals ≡ below width
  after_bind-below s (p.bind_node variable t source) b = with_slot-below s variable.name b

  after_binds-below : (s : Scope) (bs : PlainBinds Slot Target SeqType) → s.locals ≡ below width → (after_binds s bs).locals ≡ below width
  after_binds-below s p.no_binds b = b
  after_binds-below s (p.more_binds x bs) b = after_binds-below (after_bind s x) bs (after_bind-below s x b)

  -- ---- what a node finds itself

  read-small : (s : Scope) → s.locals ≡ below width → (v : Slot) → may_read s v ≡ true → Below (of_variable v)
  read-small s b (Local n) h = subst (λ l. has_local l n ≡ true) b h
  read-small s b (Global n) h = tt

  target-own : (f : Target) → AllByRecursion Below (target_sources f)
  target-own (Built id) = tt
  target-own (Own n) = (tt, tt)
  target-own (Lines names) = tt

  lookup-own : (s : Scope) → s.locals ≡ below width → (x : PlainLookup Slot Target SeqType) → lookup_bound s x ≡ true → AllByRecursion Below (lookup_sources x)
  lookup-own s b (p.name_lookup name) h = tt
  lookup-own s b (p.text_lookup value) h = tt
  lookup-own s b (p.var_lookup variable) h = (read-small s b variable.name h, tt)
  lookup-own s b (p.context_lookup place) h = (tt, tt)
  lookup-own s b (p.computed_lookup value) h = tt

  step-own : (s : Scope) → s.locals ≡ below width → (x : PlainStep Slot Target SeqType) → step_bound s x ≡ true → AllByRecursion Below (step_sources x)
  step-own s b (p.members_step place) h = tt
  step-own s b (p.member_step place position) h = tt
  step-own s b (p.filter_step place test) h = tt
  step-own s b (p.field_step place key) h = lookup-own s b key h

  steps-own : (s : Scope) → s.locals ≡ below width → (xs : PlainSteps Slot Target SeqType) → steps_bound s xs ≡ true → AllByRecursion Below (steps_sources xs)
  steps-own s b p.no_steps h = tt
  steps-own s b (p.more_steps x xs) h =
      let hs = and_parts (step_bound s x) (steps_bound s xs) h in
      of_joined Below (step_sources x) (steps_sources xs) (step-own s b x hs.0) (steps-own s b xs hs.1)

  -- a key that is bound has an expression
  keys-own : (s : Scope) (ks : PlainGroupVars Slot Target SeqType) → group_vars_bound s ks ≡ true → AllByRecursion Below (keys_sources ks)
  keys-own s p.no_group_vars h = tt
  keys-own s (p.more_group_vars (p.stream_group_var variable) ks) h = absurd (false≢true h)
  keys-own s (p.more_group_vars (p.computed_group_var variable e) ks) h =
      let hs = and_parts (group_var_bound s (p.computed_group_var variable e)) (group_vars_bound (after_key s (p.computed_group_var variable e)) ks) h in
      keys-own (after_key s (p.computed_group_var variable e)) ks hs.1

  clause-keys : (s : Scope) (c : PlainClause Slot Target SeqType) → clause_bound s c ≡ true → AllByRecursion Below (clause_sources c)
  clause-keys s (p.group_clause place keys) h = keys-own s keys h
  clause-keys s _ h = tt

  clauses-keys : (s : Scope) (cs : PlainClauses Slot Target SeqType) → clauses_bound s cs ≡ true → AllByRecursion Below (clauses_sources cs)
  clauses-keys s p.no_clauses h = tt
  clauses-keys s (p.more_clauses c cs) h =
      let hs = and_parts (clause_bound s c) (clauses_bound (after_clause s c) cs) h in
      of_joined Below (clause_sources c) (clauses_sources cs) (clause-keys s c hs.0) (clauses-keys (after_clause s c) cs hs.1)

  -- ---- trees

  mutual
    pub tree-small : (s : Scope) → s.locals ≡ below width → (t : BoundTree) → is_bound s t ≡ true → Within Small (subtrees t)
    tree-small s b (p.tree_node place kind) h = form-small s b kind h

    form-small : (s : Scope) → s.locals ≡ below width → (kind : Form Slot Target SeqType) → form_bound s kind ≡ true → AllByRecursion Below (form_sources kind) × Within Small (form_subtrees kind)
    form-small s b (p.comma_form first rest) h = (tt, two (is_bound s first) (operands_bound s rest) (subtrees first) (operands_subtrees rest) (tree-small s b first) (operands-small s b rest) h)
    form-small s b (p.flwor_form clauses place result) h =
        let hs = and_parts (clauses_bound s clauses) (is_bound (after_clauses s clauses) result) h in
        (clauses-keys s clauses hs.0, of_joined Small (clauses_subtrees clauses) (subtrees result) (clauses-small s b clauses hs.0) (tree-small (after_clauses s clauses) (after_clauses-below s clauses b) result hs.1))
    form-small s b (p.quant_form quantifier binds test) h =
        let hs = and_parts (binds_bound s binds) (is_bound (after_binds s binds) test) h in
        (tt, of_joined Small (binds_subtrees binds) (subtrees test) (binds-small s b binds hs.0) (tree-small (after_binds s binds) (after_binds-below s binds b) test hs.1))
    form-small s b (p.switch_form operand cases default) h =
        let hs = and_parts (is_bound s operand && cases_bound s cases) (is_bound s default) h in
        (tt, of_joined Small (subtrees operand ++ cases_subtrees cases) (subtrees default) (two (is_bound s operand) (cases_bound s cases) (subtrees operand) (cases_subtrees cases) (tree-small s b operand) (cases-small s b cases) hs.0) (tree-small s b default hs.1))
    form-small s b (p.typeswitch_form operand cases variable default) h =
        let hs = and_parts (is_bound s operand && type_cases_bound s cases && may_bind_any s variable) (is_bound (with_any s variable) default) h in
        let front = and_parts (is_bound s operand && type_cases_bound s cases) (may_bind_any s variable) hs.0 in
        (tt, of_joined Small (subtrees operand ++ type_cases_subtrees cases) (subtrees default) (two (is_bound s operand) (type_cases_bound s cases) (subtrees operand) (type_cases_subtrees cases) (tree-small s b operand) (type_cases-small s b cases) front.0) (tree-small (with_any s variable) (with_any-below s variable b) default hs.1))
    form-small s b (p.if_form condition when_true when_false) h =
        let hs = and_parts (is_bound s condition && is_bound s when_true) (is_bound s when_false) h in
        (tt, of_joined Small (subtrees condition ++ subtrees when_true) (subtrees when_false) (two (is_bound s condition) (is_bound s when_true) (subtrees condition) (subtrees when_true) (tree-small s b condition) (tree-small s b when_true) hs.0) (tree-small s b when_false hs.1))
    form-small s b (p.try_form body catches) h = (tt, two (is_bound s body) (catches_bound s catches) (subtrees body) (catches_subtrees catches) (tree-small s b body) (catches-small s b catches) h)
    form-small s b (p.or_form first rest) h = (tt, two (is_bound s first) (operands_bound s rest) (subtrees first) (operands_subtrees rest) (tree-small s b first) (operands-small s b rest) h)
    form-small s b (p.and_form first rest) h = (tt, two (is_bound s first) (operands_bound s rest) (subtrees first) (operands_subtrees rest) (tree-small s b first) (operands-small s b rest) h)
    form-small s b (p.concat_form first rest) h = (tt, two (is_bound s first) (operands_bound s rest) (subtrees first) (operands_subtrees rest) (tree-small s b first) (operands-small s b rest) h)
    form-small s b (p.map_form first rest) h = (tt, two (is_bound s first) (operands_bound (with_item s) rest) (subtrees first) (operands_subtrees rest) (tree-small s b first) (operands-small (with_item s) b rest) h)
    form-small s b (p.compare_form left op place right) h = (tt, two (is_bound s left) (is_bound s right) (subtrees left) (subtrees right) (tree-small s b left) (tree-small s b right) h)
    form-small s b (p.range_form left place right) h = (tt, two (is_bound s left) (is_bound s right) (subtrees left) (subtrees right) (tree-small s b left) (tree-small s b right) h)
    form-small s b (p.sum_form first rest) h = (tt, two (is_bound s first) (terms_bound s rest) (subtrees first) (terms_subtrees rest) (tree-small s b first) (terms-small s b rest) h)
    form-small s b (p.product_form first rest) h = (tt, two (is_bound s first) (factors_bound s rest) (subtrees first) (factors_subtrees rest) (tree-small s b first) (factors-small s b rest) h)
    form-small s b (p.not_form operand) h = (tt, tree-small s b operand h)
    form-small s b (p.instance_form operand place t) h = (tt, tree-small s b operand h)
    form-small s b (p.treat_form operand place t) h = (tt, tree-small s b operand h)
    form-small s b (p.sign_form signs operand) h = (tt, tree-small s b operand h)
    form-small s b (p.castable_form operand place t) h = (tt, tree-small s b operand (and_parts (is_bound s operand) (is_cast_type t.name) h).0)
    form-small s b (p.cast_form operand place t) h = (tt, tree-small s b operand (and_parts (is_bound s operand) (is_cast_type t.name) h).0)
    form-small s b (p.postfix_form primary steps) h =
        let hs = and_parts (is_bound s primary) (steps_bound s steps) h in
        (steps-own s b steps hs.1, of_joined Small (subtrees primary) (steps_subtrees steps) (tree-small s b primary hs.0) (steps-small s b steps hs.1))
    form-small s b (p.int_form value) h = (tt, tt)
    form-small s b (p.dec_form value) h = (tt, tt)
    form-small s b (p.text_form value) h = (tt, tt)
    form-small s b p.true_form h = (tt, tt)
    form-small s b p.false_form h = (tt, tt)
    form-small s b p.null_form h = (tt, tt)
    form-small s b (p.var_form variable) h = ((read-small s b variable h, tt), tt)
    form-small s b p.context_form h = ((tt, tt), tt)
    form-small s b (p.paren_form content) h = (tt, content-small s b content h)
    form-small s b (p.merge_form content) h = (tt, content-small s b content h)
    form-small s b (p.array_form content) h = (tt, content-small s b content h)
    form-small s b (p.object_form pairs) h = (tt, pairs-small s b pairs h)
    form-small s b (p.call_form function arguments) h = (target-own function, trees-small s b arguments (and_parts (may_call s function (how_many arguments)) (trees_bound s arguments) h).1)

    content-small : (s : Scope) → s.locals ≡ below width → (x : MaybeTree Slot Target SeqType) → content_bound s x ≡ true → Within Small (content_subtrees x)
    content-small s b p.no_tree h = tt
    content-small s b (p.one_tree t) h = tree-small s b t h

    trees-small : (s : Scope) → s.locals ≡ below width → (x : Trees Slot Target SeqType) → trees_bound s x ≡ true → Within Small (trees_subtrees x)
    trees-small s b p.no_trees h = tt
    trees-small s b (p.more_trees x xs) h = two (is_bound s x) (trees_bound s xs) (subtrees x) (trees_subtrees xs) (tree-small s b x) (trees-small s b xs) h

    operand-small : (s : Scope) → s.locals ≡ below width → (x : PlainOperand Slot Target SeqType) → operand_bound s x ≡ true → Within Small (operand_subtrees x)
    operand-small s b (p.operand_node place value) h = tree-small s b value h

    operands-small : (s : Scope) → s.locals ≡ below width → (x : PlainOperands Slot Target SeqType) → operands_bound s x ≡ true → Within Small (operands_subtrees x)
    operands-small s b p.no_operands h = tt
    operands-small s b (p.more_operands x xs) h = two (operand_bound s x) (operands_bound s xs) (operand_subtrees x) (operands_subtrees xs) (operand-small s b x) (operands-small s b xs) h

    term-small : (s : Scope) → s.locals ≡ below width → (x : PlainTerm Slot Target SeqType) → term_bound s x ≡ true → Within Small (term_subtrees x)
    term-small s b (p.term_node op place value) h = tree-small s b value h

    terms-small : (s : Scope) → s.locals ≡ below width → (x : PlainTerms Slot Target SeqType) → terms_bound s x ≡ true → Within Small (terms_subtrees x)
    terms-small s b p.no_terms h = tt
    terms-small s b (p.more_terms x xs) h = two (term_bound s x) (terms_bound s xs) (term_subtrees x) (terms_subtrees xs) (term-small s b x) (terms-small s b xs) h

    factor-small : (s : Scope) → s.locals ≡ below width → (x : PlainFactor Slot Target SeqType) → factor_bound s x ≡ true → Within Small (factor_subtrees x)
    factor-small s b (p.factor_node op place value) h = tree-small s b value h

    factors-small : (s : Scope) → s.locals ≡ below width → (x : PlainFactors Slot Target SeqType) → factors_bound s x ≡ true → Within Small (factors_subtrees x)
    factors-small s b p.no_factors h = tt
    factors-small s b (p.more_factors x xs) h = two (factor_bound s x) (factors_bound s xs) (factor_subtrees x) (factors_subtrees xs) (factor-small s b x) (factors-small s b xs) h

    case-small : (s : Scope) → s.locals ≡ below width → (x : PlainCase Slot Target SeqType) → case_bound s x ≡ true → Within Small (case_subtrees x)
    case-small s b (p.case_node tests result) h = two (trees_bound s tests) (is_bound s result) (trees_subtrees tests) (subtrees result) (trees-small s b tests) (tree-small s b result) h

    cases-small : (s : Scope) → s.locals ≡ below width → (x : PlainCases Slot Target SeqType) → cases_bound s x ≡ true → Within Small (cases_subtrees x)
    cases-small s b p.no_cases h = tt
    cases-small s b (p.more_cases x xs) h = two (case_bound s x) (cases_bound s xs) (case_subtrees x) (cases_subtrees xs) (case-small s b x) (cases-small s b xs) h

    type_case-small : (s : Scope) → s.locals ≡ below width → (x : PlainTypeCase Slot Target SeqType) → type_case_bound s x ≡ true → Within Small (type_case_subtrees x)
    type_case-small s b (p.type_case_node variable types result) h = tree-small (with_any s variable) (with_any-below s variable b) result (and_parts (may_bind_any s variable) (is_bound (with_any s variable) result) h).1

    type_cases-small : (s : Scope) → s.locals ≡ below width → (x : PlainTypeCases Slot Target SeqType) → type_cases_bound s x ≡ true → Within Small (type_cases_subtrees x)
    type_cases-small s b p.no_type_cases h = tt
    type_cases-small s b (p.more_type_cases x xs) h = two (type_case_bound s x) (type_cases_bound s xs) (type_case_subtrees x) (type_cases_subtrees xs) (type_case-small s b x) (type_cases-small s b xs) h

    catch-small : (s : Scope) → s.locals ≡ below width → (x : PlainCatch Slot Target SeqType) → catch_bound s x ≡ true → Within Small (catch_subtrees x)
    catch-small s b (p.catch_node error codes body) h = tree-small (with_slot s error.name) (with_slot-below s error.name b) body (and_parts (may_bind s error.name) (is_bound (with_slot s error.name) body) h).1

    catches-small : (s : Scope) → s.locals ≡ below width → (x : PlainCatches Slot Target SeqType) → catches_bound s x ≡ true → Within Small (catches_subtrees x)
    catches-small s b p.no_catches h = tt
    catches-small s b (p.more_catches x xs) h = two (catch_bound s x) (catches_bound s xs) (catch_subtrees x) (catches_subtrees xs) (catch-small s b x) (catches-small s b xs) h

    pair-small : (s : Scope) → s.locals ≡ below width → (x : PlainPair Slot Target SeqType) → pair_bound s x ≡ true → Within Small (pair_subtrees x)
    pair-small s b (p.named_pair name place value) h = tree-small s b value h
    pair-small s b (p.computed_pair key place value) h = two (is_bound s key) (is_bound s value) (subtrees key) (subtrees value) (tree-small s b key) (tree-small s b value) h

    pairs-small : (s : Scope) → s.locals ≡ below width → (x : PlainPairs Slot Target SeqType) → pairs_bound s x ≡ true → Within Small (pairs_subtrees x)
    pairs-small s b p.no_pairs h = tt
    pairs-small s b (p.more_pairs x xs) h = two (pair_bound s x) (pairs_bound s xs) (pair_subtrees x) (pairs_subtrees xs) (pair-small s b x) (pairs-small s b xs) h

    order_key-small : (s : Scope) → s.locals ≡ below width → (x : PlainOrderKey Slot Target SeqType) → order_key_bound s x ≡ true → Within Small (order_key_subtrees x)
    order_key-small s b (p.order_key_node value descending empty_greatest) h = tree-small s b value h

    order_keys-small : (s : Scope) → s.locals ≡ below width → (x : PlainOrderKeys Slot Target SeqType) → order_keys_bound s x ≡ true → Within Small (order_keys_subtrees x)
    order_keys-small s b p.no_order_keys h = tt
    order_keys-small s b (p.more_order_keys x xs) h = two (order_key_bound s x) (order_keys_bound s xs) (order_key_subtrees x) (order_keys_subtrees xs) (order_key-small s b x) (order_keys-small s b xs) h

    bind-small : (s : Scope) → s.locals ≡ below width → (x : PlainBind Slot Target SeqType) → bind_bound s x ≡ true → Within Small (bind_subtrees x)
    bind-small s b (p.bind_node variable t source) h = tree-small s b source (and_parts (may_bind s variable.name) (is_bound s source) h).1

    binds-small : (s : Scope) → s.locals ≡ below width → (x : PlainBinds Slot Target SeqType) → binds_bound s x ≡ true → Within Small (binds_subtrees x)
    binds-small s b p.no_binds h = tt
    binds-small s b (p.more_binds x xs) h = two (bind_bound s x) (binds_bound (after_bind s x) xs) (bind_subtrees x) (binds_subtrees xs) (bind-small s b x) (binds-small (after_bind s x) (after_bind-below s x b) xs) h

    lookup-small : (s : Scope) → s.locals ≡ below width → (x : PlainLookup Slot Target SeqType) → lookup_bound s x ≡ true → Within Small (lookup_subtrees x)
    lookup-small s b (p.name_lookup name) h = tt
    lookup-small s b (p.text_lookup value) h = tt
    lookup-small s b (p.var_lookup variable) h = tt
    lookup-small s b (p.context_lookup place) h = tt
    lookup-small s b (p.computed_lookup value) h = tree-small s b value h

    step-small : (s : Scope) → s.locals ≡ below width → (x : PlainStep Slot Target SeqType) → step_bound s x ≡ true → Within Small (step_subtrees x)
    step-small s b (p.members_step place) h = tt
    step-small s b (p.member_step place position) h = tree-small s b position h
    step-small s b (p.filter_step place test) h = tree-small (with_item s) b test h
    step-small s b (p.field_step place key) h = lookup-small s b key h

    steps-small : (s : Scope) → s.locals ≡ below width → (x : PlainSteps Slot Target SeqType) → steps_bound s x ≡ true → Within Small (steps_subtrees x)
    steps-small s b p.no_steps h = tt
    steps-small s b (p.more_steps x xs) h = two (step_bound s x) (steps_bound s xs) (step_subtrees x) (steps_subtrees xs) (step-small s b x) (steps-small s b xs) h

    group_var-small : (s : Scope) → s.locals ≡ below width → (x : PlainGroupVar Slot Target SeqType) → group_var_bound s x ≡ true → Within Small (group_var_subtrees x)
    group_var-small s b (p.stream_group_var variable) h = tt
    group_var-small s b (p.computed_group_var variable value) h = tree-small s b value (and_parts (may_bind s variable.name) (is_bound s value) h).1

    group_vars-small : (s : Scope) → s.locals ≡ below width → (x : PlainGroupVars Slot Target SeqType) → group_vars_bound s x ≡ true → Within Small (group_vars_subtrees x)
    group_vars-small s b p.no_group_vars h = tt
    group_vars-small s b (p.more_group_vars x xs) h = two (group_var_bound s x) (group_vars_bound (after_key s x) xs) (group_var_subtrees x) (group_vars_subtrees xs) (group_var-small s b x) (group_vars-small (after_key s x) (with_slot-below s (key_slot x) b) xs) h

    clause-small : (s : Scope) → s.locals ≡ below width → (x : PlainClause Slot Target SeqType) → clause_bound s x ≡ true → Within Small (clause_subtrees x)
    clause-small s b (p.for_clause variable t allowing_empty position source) h = tree-small s b source (and_parts (may_bind s variable.name && may_bind_any s position) (is_bound s source) h).1
    clause-small s b (p.let_clause variable t value) h = tree-small s b value (and_parts (may_bind s variable.name) (is_bound s value) h).1
    clause-small s b (p.where_clause place test) h = tree-small s b test h
    clause-small s b (p.group_clause place keys) h = group_vars-small s b keys h
    clause-small s b (p.order_clause place stable keys) h = order_keys-small s b keys h
    clause-small s b (p.count_clause place variable) h = tt

    clauses-small : (s : Scope) → s.locals ≡ below width → (x : PlainClauses Slot Target SeqType) → clauses_bound s x ≡ true → Within Small (clauses_subtrees x)
    clauses-small s b p.no_clauses h = tt
    clauses-small s b (p.more_clauses x xs) h = two (clause_bound s x) (clauses_bound (after_clause s x) xs) (clause_subtrees x) (clauses_subtrees xs) (clause-small s b x) (clauses-small (after_clause s x) (after_clause-below s x b) xs) h

  -- what all nodes of some trees find
  pub flat : (ts : List BoundTree) → Within Small ts → AllByRecursion Below (flat_map own_sources ts)
  flat [] w = tt
  flat (t ∷ ts) w = of_joined Below (own_sources t) (flat_map own_sources ts) w.0 (flat ts w.1)

  pub reads-below : (s : Scope) → s.locals ≡ below width → (t : BoundTree) → is_bound s t ≡ true → AllByRecursion Below (sources t)
  reads-below s b t h = flat (subtrees t) (tree-small s b t h)
