-- What the parts of an expression come to where all that may be used in their scopes is the same:
-- all kinds but FLWORs.
use mathlib.Core.Path.{fun_ext}
use Rattle.std.proofs.Common.{◌≡◌, ℕ, true, ◌&&◌, if◌then◌else◌, List, [], ◌∷◌, slice_get, Option, Some, Ok, Err, refl, ap, ap₂, ◌∙◌}
use Rattle.std.proofs.lemmas.Bool.{and_parts}
use Rattle.item_tree.specs.declared.fault.Fault.{Fault}
use Rattle.item_tree.specs.Datum.{Datum, text}
use Rattle.item_tree.specs.Codes.{code_text}
use Rattle.seq_types.specs.declared.types.SeqType.{SeqType}
use Rattle.query_tree.specs.declared.bound.Slot.{Slot}
use Rattle.query_tree.specs.declared.bound.Target.{Target}
use Rattle.query_tree.specs.declared.bound.Target.TheVariants.{Built, Own, Lines}
use Rattle.query_tree.specs.declared.names.Placed.{Placed}
use Rattle.query_tree.specs.declared.operator.CompareOp.{CompareOp}
use Rattle.query_tree.specs.declared.operator.Quantifier.{Quantifier}
use Rattle.query_tree.specs.declared.operator.SumOp.{SumOp}
use Rattle.query_tree.specs.Bound.{BoundTree, after_binds, is_bound, content_bound, trees_bound, operand_bound, operands_bound, term_bound, terms_bound, factor_bound, factors_bound, bind_bound, binds_bound, case_bound, cases_bound, type_case_bound, type_cases_bound, catch_bound, catches_bound, pair_bound, pairs_bound, step_bound, steps_bound, lookup_bound}
use Rattle.query_tree.specs.Plain as p
use Rattle.query_tree.specs.Plain.{Trees, MaybeTree, PlainOperand, PlainOperands, PlainTerm, PlainTerms, PlainFactor, PlainFactors, PlainBinds, PlainCases, PlainTypeCases, PlainCatches, PlainPair, PlainPairs, PlainStep, PlainSteps, PlainLookup}
use Rattle.query_tree.specs.Scopes as scope
use Rattle.query_tree.specs.Scopes.{Scope, may_bind, may_bind_any, with_slot, with_any}
use Rattle.query_meaning.specs.Outcome.{Outcome, ◌>>=◌, joined, each, each_from}
use Rattle.query_meaning.specs.Environment.{Environment, Inner, binding, with_item, item_or_fault}
use Rattle.query_meaning.specs.Checks.{truth_of, typed}
use Rattle.query_meaning.specs.Operators.{operands_value, comma_value, mapped_by, mapped, map_value, text_behind, texts_behind, concat_value, any_true, or_value, all_true, and_value, not_value, compare_value, range_value, with_term, with_terms, sum_value, with_factor, with_factors, product_value, sign_value, instance_value, treat_value, cast_to_value, castable_value}
use Rattle.query_meaning.specs.Paths.{kept, filtered, member_value, key_value, field_value, step_value, steps_value, postfix_value}
use Rattle.query_meaning.specs.Constructors.{content_value, array_value, entry_of, entries_of, object_value, merge_value}
use Rattle.query_meaning.specs.Choices.{if_value, switched, any_matches, case_chosen, switch_value, binding_any, fits_any, type_case_chosen, typeswitch_value, catches, handled, or_handled, try_value, quantified, quantified_over, quantified_value}
use Rattle.query_meaning.specs.Calls.{Program, arguments_value, declared_value, call_value}
use Rattle.meaning_laws.proofs.Alike.{then_same}
use Rattle.meaning_laws.proofs.AlikeParts.{SameBehind}
use Rattle.meaning_laws.proofs.Sight.{Sees, Looks, binding-sees, binding_any-sees, with_item-sees, value-seen}

module _ (globals : ℕ) (functions : List ℕ) (inner inner' : Inner) (looks : Looks globals functions inner inner') (s : Scope) (env other : Environment) (sees : Sees globals functions s env other) where
  pub same : (e : BoundTree) → is_bound s e ≡ true → inner e env ≡ inner' e other
  same e w = looks s e w env other sees

  pub truth-same : (e : BoundTree) → is_bound s e ≡ true → truth_of inner e env ≡ truth_of inner' e other
  truth-same e w = rw (same e w)

  pub content-same : (c : MaybeTree Slot Target SeqType) → content_bound s c ≡ true → content_value inner c env ≡ content_value inner' c other
  content-same p.no_tree w = refl
  content-same (p.one_tree e) w = same e w

  -- with an item of a list as `$$`
  same-at : (e : BoundTree) → is_bound (scope.with_item s) e ≡ true → (x : Datum) → inner e (with_item env x) ≡ inner' e (with_item other x)
  same-at e w x = looks (scope.with_item s) e w (with_item env x) (with_item other x) (with_item-sees globals functions s env other x sees)

  -- ---- operators

  operands-same : (os : PlainOperands Slot Target SeqType) → operands_bound s os ≡ true → operands_value inner os env ≡ operands_value inner' os other
  operands-same p.no_operands w = refl
  operands-same (p.more_operands (p.operand_node place e) os) w =
      let ws = and_parts (is_bound s e) (operands_bound s os) w in
      ap₂ joined (same e ws.0) (operands-same os ws.1)

  pub comma-same : (first : BoundTree) (rest : PlainOperands Slot Target SeqType) → (is_bound s first && operands_bound s rest) ≡ true → comma_value inner first rest env ≡ comma_value inner' first rest other
  unfolding comma_value
  comma-same first rest w =
      let ws = and_parts (is_bound s first) (operands_bound s rest) w in
      ap₂ joined (same first ws.0) (operands-same rest ws.1)

  mapped_by-same : (o : PlainOperand Slot Target SeqType) → operand_bound (scope.with_item s) o ≡ true → (value : List Datum) → mapped_by inner o env value ≡ mapped_by inner' o other value
  unfolding mapped_by
  mapped_by-same (p.operand_node place e) w value = ap (λ f. each f value) (fun_ext (same-at e w))

  mapped-same : (os : PlainOperands Slot Target SeqType) → operands_bound (scope.with_item s) os ≡ true → (value : List Datum) → mapped inner os env value ≡ mapped inner' os other value
  mapped-same p.no_operands w value = refl
  mapped-same (p.more_operands o os) w value =
      let ws = and_parts (operand_bound (scope.with_item s) o) (operands_bound (scope.with_item s) os) w in
      then_same (mapped inner os env) (mapped inner' os other) (mapped_by inner o env value) (mapped_by inner' o other value) (mapped_by-same o ws.0 value) (mapped-same os ws.1)

  pub map-same : (first : BoundTree) (rest : PlainOperands Slot Target SeqType) → (is_bound s first && operands_bound (scope.with_item s) rest) ≡ true → map_value inner first rest env ≡ map_value inner' first rest other
  unfolding map_value
  map-same first rest w =
      let ws = and_parts (is_bound s first) (operands_bound (scope.with_item s) rest) w in
      then_same (mapped inner rest env) (mapped inner' rest other) (inner first env) (inner' first other) (same first ws.0) (mapped-same rest ws.1)

  text-same : (o : PlainOperand Slot Target SeqType) → operand_bound s o ≡ true → (left : List Datum) → text_behind inner o env left ≡ text_behind inner' o other left
  unfolding text_behind
  text-same (p.operand_node place e) w left = rw (same e w)

  texts-same : (os : PlainOperands Slot Target SeqType) → operands_bound s os ≡ true → (value : List Datum) → texts_behind inner os env value ≡ texts_behind inner' os other value
  texts-same p.no_operands w value = refl
  texts-same (p.more_operands o os) w value =
      let ws = and_parts (operand_bound s o) (operands_bound s os) w in
      then_same (texts_behind inner os env) (texts_behind inner' os other) (text_behind inner o env value) (text_behind inner' o other value) (text-same o ws.0 value) (texts-same os ws.1)

  pub concat-same : (first : BoundTree) (rest : PlainOperands Slot Target SeqType) → (is_bound s first && operands_bound s rest) ≡ true → concat_value inner first rest env ≡ concat_value inner' first rest other
  unfolding concat_value
  concat-same first rest w =
      let ws = and_parts (is_bound s first) (operands_bound s rest) w in
      then_same (texts_behind inner rest env) (texts_behind inner' rest other) (inner first env) (inner' first other) (same first ws.0) (texts-same rest ws.1)

  any-same : (os : PlainOperands Slot Target SeqType) → operands_bound s os ≡ true → any_true inner os env ≡ any_true inner' os other
  any-same p.no_operands w = refl
  any-same (p.more_operands (p.operand_node place e) os) w =
      let ws = and_parts (is_bound s e) (operands_bound s os) w in
      simp (same e ws.0, any-same os ws.1)

  pub or-same : (first : BoundTree) (rest : PlainOperands Slot Target SeqType) → (is_bound s first && operands_bound s rest) ≡ true → or_value inner first rest env ≡ or_value inner' first rest other
  unfolding or_value
  or-same first rest w =
      let ws = and_parts (is_bound s first) (operands_bound s rest) w in
      simp (same first ws.0, any-same rest ws.1)

  all-same : (os : PlainOperands Slot Target SeqType) → operands_bound s os ≡ true → all_true inner os env ≡ all_true inner' os other
  all-same p.no_operands w = refl
  all-same (p.more_operands (p.operand_node place e) os) w =
      let ws = and_parts (is_bound s e) (operands_bound s os) w in
      simp (same e ws.0, all-same os ws.1)

  pub and-same : (first : BoundTree) (rest : PlainOperands Slot Target SeqType) → (is_bound s first && operands_bound s rest) ≡ true → and_value inner first rest env ≡ and_value inner' first rest other
  unfolding and_value
  and-same first rest w =
      let ws = and_parts (is_bound s first) (operands_bound s rest) w in
      simp (same first ws.0, all-same rest ws.1)

  pub not-same : (e : BoundTree) → is_bound s e ≡ true → not_value inner e env ≡ not_value inner' e other
  unfolding not_value
  not-same e w = rw (same e w)

  pub compare-same : (left : BoundTree) (op : CompareOp) (place : ℕ) (right : BoundTree) → (is_bound s left && is_bound s right) ≡ true → compare_value inner left op place right env ≡ compare_value inner' left op place right other
  unfolding compare_value
  compare-same left op place right w =
      let ws = and_parts (is_bound s left) (is_bound s right) w in
      simp (same left ws.0, same right ws.1)

  pub range-same : (left : BoundTree) (place : ℕ) (right : BoundTree) → (is_bound s left && is_bound s right) ≡ true → range_value inner left place right env ≡ range_value inner' left place right other
  unfolding range_value
  range-same left place right w =
      let ws = and_parts (is_bound s left) (is_bound s right) w in
      simp (same left ws.0, same right ws.1)

  term-same : (t : PlainTerm Slot Target SeqType) → term_bound s t ≡ true → (left : List Datum) → with_term inner t env left ≡ with_term inner' t other left
  unfolding with_term
  term-same (p.term_node op place e) w left = rw (same e w)

  terms-same : (ts : PlainTerms Slot Target SeqType) → terms_bound s ts ≡ true → (value : List Datum) → with_terms inner ts env value ≡ with_terms inner' ts other value
  terms-same p.no_terms w value = refl
  terms-same (p.more_terms t ts) w value =
      let ws = and_parts (term_bound s t) (terms_bound s ts) w in
      then_same (with_terms inner ts env) (with_terms inner' ts other) (with_term inner t env value) (with_term inner' t other value) (term-same t ws.0 value) (terms-same ts ws.1)

  pub sum-same : (first : BoundTree) (rest : PlainTerms Slot Target SeqType) → (is_bound s first && terms_bound s rest) ≡ true → sum_value inner first rest env ≡ sum_value inner' first rest other
  unfolding sum_value
  sum-same first rest w =
      let ws = and_parts (is_bound s first) (terms_bound s rest) w in
      then_same (with_terms inner rest env) (with_terms inner' rest other) (inner first env) (inner' first other) (same first ws.0) (terms-same rest ws.1)

  factor-same : (f : PlainFactor Slot Target SeqType) → factor_bound s f ≡ true → (left : List Datum) → with_factor inner f env left ≡ with_factor inner' f other left
  unfolding with_factor
  factor-same (p.factor_node op place e) w left = rw (same e w)

  factors-same : (fs : PlainFactors Slot Target SeqType) → factors_bound s fs ≡ true → (value : List Datum) → with_factors inner fs env value ≡ with_factors inner' fs other value
  factors-same p.no_factors w value = refl
  factors-same (p.more_factors f fs) w value =
      let ws = and_parts (factor_bound s f) (factors_bound s fs) w in
      then_same (with_factors inner fs env) (with_factors inner' fs other) (with_factor inner f env value) (with_factor inner' f other value) (factor-same f ws.0 value) (factors-same fs ws.1)

  pub product-same : (first : BoundTree) (rest : PlainFactors Slot Target SeqType) → (is_bound s first && factors_bound s rest) ≡ true → product_value inner first rest env ≡ product_value inner' first rest other
  unfolding product_value
  product-same first rest w =
      let ws = and_parts (is_bound s first) (factors_bound s rest) w in
      then_same (with_factors inner rest env) (with_factors inner' rest other) (inner first env) (inner' first other) (same first ws.0) (factors-same rest ws.1)

  pub sign-same : (place : ℕ) (signs : List (SumOp × ℕ)) (e : BoundTree) → is_bound s e ≡ true → sign_value inner place signs e env ≡ sign_value inner' place signs e other
  unfolding sign_value
  sign-same place signs e w = rw (same e w)

  pub instance-same : (e : BoundTree) (t : Placed SeqType) → is_bound s e ≡ true → instance_value inner e t env ≡ instance_value inner' e t other
  unfolding instance_value
  instance-same e t w = rw (same e w)

  pub treat-same : (e : BoundTree) (place : ℕ) (t : Placed SeqType) → is_bound s e ≡ true → treat_value inner e place t env ≡ treat_value inner' e place t other
  unfolding treat_value
  treat-same e place t w = rw (same e w)

  pub cast-same : (e : BoundTree) (place : ℕ) (t : Placed SeqType) → is_bound s e ≡ true → cast_to_value inner e place t env ≡ cast_to_value inner' e place t other
  unfolding cast_to_value
  cast-same e place t w = rw (same e w)

  pub castable-same : (e : BoundTree) (t : Placed SeqType) → is_bound s e ≡ true → castable_value inner e t env ≡ castable_value inner' e t other
  unfolding castable_value
  castable-same e t w = rw (same e w)

  -- ---- paths

  kept-same : (place : ℕ) (test : BoundTree) → is_bound (scope.with_item s) test ≡ true → (position : ℕ) (x : Datum) → kept inner place test env position x ≡ kept inner' place test other position x
  unfolding kept
  kept-same place test w position x = rw (same-at test w x)

  filtered-same : (place : ℕ) (test : BoundTree) → is_bound (scope.with_item s) test ≡ true → (value : List Datum) → filtered inner place test env value ≡ filtered inner' place test other value
  unfolding filtered
  filtered-same place test w value = ap (λ f. each_from f 1 value) (fun_ext (λ n. fun_ext (kept-same place test w n)))

  member-same : (place : ℕ) (position : BoundTree) → is_bound s position ≡ true → (value : List Datum) → member_value inner place position env value ≡ member_value inner' place position other value
  unfolding member_value
  member-same place position w value = rw (same position w)

  key-same : (key : PlainLookup Slot Target SeqType) → lookup_bound s key ≡ true → key_value inner key env ≡ key_value inner' key other
  unfolding key_value
  key-same (p.name_lookup name) w = refl
  key-same (p.text_lookup value) w = refl
  key-same (p.var_lookup variable) w = ap Ok (value-seen globals functions s env other variable.name sees w)
  key-same (p.context_lookup place) w = ap (item_or_fault place) (sees.outside.context w)
  key-same (p.computed_lookup e) w = same e w

  field-same : (place : ℕ) (key : PlainLookup Slot Target SeqType) → lookup_bound s key ≡ true → (value : List Datum) → field_value inner place key env value ≡ field_value inner' place key other value
  unfolding field_value
  field-same place key w value = rw (key-same key w)

  step-same : (x : PlainStep Slot Target SeqType) → step_bound s x ≡ true → (value : List Datum) → step_value inner x env value ≡ step_value inner' x other value
  step-same (p.members_step place) w value = refl
  step-same (p.member_step place position) w value = member-same place position w value
  step-same (p.filter_step place test) w value = filtered-same place test w value
  step-same (p.field_step place key) w value = field-same place key w value

  steps-same : (ss : PlainSteps Slot Target SeqType) → steps_bound s ss ≡ true → (value : List Datum) → steps_value inner ss env value ≡ steps_value inner' ss other value
  steps-same p.no_steps w value = refl
  steps-same (p.more_steps x ss) w value =
      let ws = and_parts (step_bound s x) (steps_bound s ss) w in
      then_same (steps_value inner ss env) (steps_value inner' ss other) (step_value inner x env value) (step_value inner' x other value) (step-same x ws.0 value) (steps-same ss ws.1)

  pub postfix-same : (primary : BoundTree) (ss : PlainSteps Slot Target SeqType) → (is_bound s primary && steps_bound s ss) ≡ true → postfix_value inner primary ss env ≡ postfix_value inner' primary ss other
  unfolding postfix_value
  postfix-same primary ss w =
      let ws = and_parts (is_bound s primary) (steps_bound s ss) w in
      then_same (steps_value inner ss env) (steps_value inner' ss other) (inner primary env) (inner' primary other) (same primary ws.0) (steps-same ss ws.1)

  -- ---- arrays and objects

  pub array-same : (place : ℕ) (c : MaybeTree Slot Target SeqType) → content_bound s c ≡ true → array_value inner place c env ≡ array_value inner' place c other
  unfolding array_value
  array-same place c w = rw (content-same c w)

  pub merge-same : (place : ℕ) (c : MaybeTree Slot Target SeqType) → content_bound s c ≡ true → merge_value inner place c env ≡ merge_value inner' place c other
  unfolding merge_value
  merge-same place c w = rw (content-same c w)

  entry-same : (q : PlainPair Slot Target SeqType) → pair_bound s q ≡ true → entry_of inner q env ≡ entry_of inner' q other
  unfolding entry_of
  entry-same (p.named_pair name place e) w = rw (same e w)
  entry-same (p.computed_pair key place e) w =
      let ws = and_parts (is_bound s key) (is_bound s e) w in
      simp (same key ws.0, same e ws.1)

  entries-same : (qs : PlainPairs Slot Target SeqType) → pairs_bound s qs ≡ true → entries_of inner qs env ≡ entries_of inner' qs other
  entries-same p.no_pairs w = refl
  entries-same (p.more_pairs q qs) w =
      let ws = and_parts (pair_bound s q) (pairs_bound s qs) w in
      simp (entry-same q ws.0, entries-same qs ws.1)

  pub object-same : (place : ℕ) (qs : PlainPairs Slot Target SeqType) → pairs_bound s qs ≡ true → object_value inner place qs env ≡ object_value inner' place qs other
  unfolding object_value
  object-same place qs w = rw (entries-same qs w)

  -- ---- choices

  pub if-same : (condition when_true when_false : BoundTree) → (is_bound s condition && is_bound s when_true && is_bound s when_false) ≡ true → if_value inner condition when_true when_false env ≡ if_value inner' condition when_true when_false other
  unfolding if_value
  if-same condition when_true when_false w =
      let ws = and_parts (is_bound s condition && is_bound s when_true) (is_bound s when_false) w in
      let vs = and_parts (is_bound s condition) (is_bound s when_true) ws.0 in
      simp (same condition vs.0, same when_true vs.1, same when_false ws.1)

  switched-same : (place : ℕ) (e : BoundTree) → is_bound s e ≡ true → switched inner place e env ≡ switched inner' place e other
  switched-same place e w = rw (same e w)

  matches-same : (key : Option Datum) (es : Trees Slot Target SeqType) → trees_bound s es ≡ true → any_matches inner key es env ≡ any_matches inner' key es other
  matches-same key p.no_trees w = refl
  matches-same key (p.more_trees e es) w =
      let ws = and_parts (is_bound s e) (trees_bound s es) w in
      simp (same e ws.0, matches-same key es ws.1)

  case-same : (key : Option Datum) (cs : PlainCases Slot Target SeqType) (default : BoundTree) → cases_bound s cs ≡ true → is_bound s default ≡ true → case_chosen inner key cs default env ≡ case_chosen inner' key cs default other
  case-same key p.no_cases default w v = same default v
  case-same key (p.more_cases (p.case_node tests result) cs) default w v =
      let ws = and_parts (case_bound s (p.case_node tests result)) (cases_bound s cs) w in
      let us = and_parts (trees_bound s tests) (is_bound s result) ws.0 in
      simp (matches-same key tests us.0, same result us.1, case-same key cs default ws.1 v)

  pub switch-same : (place : ℕ) (operand : BoundTree) (cs : PlainCases Slot Target SeqType) (default : BoundTree) → (is_bound s operand && cases_bound s cs && is_bound s default) ≡ true → switch_value inner place operand cs default env ≡ switch_value inner' place operand cs default other
  unfolding switch_value
  switch-same place operand cs default w =
      let ws = and_parts (is_bound s operand && cases_bound s cs) (is_bound s default) w in
      let vs = and_parts (is_bound s operand) (cases_bound s cs) ws.0 in
      then_same (λ key. case_chosen inner key cs default env) (λ key. case_chosen inner' key cs default other) (switched inner place operand env) (switched inner' place operand other) (switched-same place operand vs.0) (λ key. case-same key cs default vs.1 ws.1)

  same-bound : (e : BoundTree) (variable : Option (Placed Slot)) → is_bound (with_any s variable) e ≡ true → (value : List Datum) → inner e (binding_any env variable value) ≡ inner' e (binding_any other variable value)
  same-bound e variable w value = looks (with_any s variable) e w (binding_any env variable value) (binding_any other variable value) (binding_any-sees globals functions s env other variable value sees)

  type_case-same : (value : List Datum) (cs : PlainTypeCases Slot Target SeqType) (variable : Option (Placed Slot)) (default : BoundTree) → type_cases_bound s cs ≡ true → is_bound (with_any s variable) default ≡ true → type_case_chosen inner value cs variable default env ≡ type_case_chosen inner' value cs variable default other
  type_case-same value p.no_type_cases variable default w v = same-bound default variable v value
  type_case-same value (p.more_type_cases (p.type_case_node own types result) cs) variable default w v =
      let ws = and_parts (type_case_bound s (p.type_case_node own types result)) (type_cases_bound s cs) w in
      let us = and_parts (may_bind_any s own) (is_bound (with_any s own) result) ws.0 in
      ap₂ (λ x y. if fits_any types value then x else y) (same-bound result own us.1 value) (type_case-same value cs variable default ws.1 v)

  pub typeswitch-same : (operand : BoundTree) (cs : PlainTypeCases Slot Target SeqType) (variable : Option (Placed Slot)) (default : BoundTree) → (is_bound s operand && type_cases_bound s cs && may_bind_any s variable && is_bound (with_any s variable) default) ≡ true → typeswitch_value inner operand cs variable default env ≡ typeswitch_value inner' operand cs variable default other
  unfolding typeswitch_value
  typeswitch-same operand cs variable default w =
      let ws = and_parts (is_bound s operand && type_cases_bound s cs && may_bind_any s variable) (is_bound (with_any s variable) default) w in
      let us = and_parts (is_bound s operand && type_cases_bound s cs) (may_bind_any s variable) ws.0 in
      let vs = and_parts (is_bound s operand) (type_cases_bound s cs) us.0 in
      then_same (λ value. type_case_chosen inner value cs variable default env) (λ value. type_case_chosen inner' value cs variable default other) (inner operand env) (inner' operand other) (same operand vs.0) (λ value. type_case-same value cs variable default vs.1 ws.1)

  handled-same : (cs : PlainCatches Slot Target SeqType) (fault : Fault) → catches_bound s cs ≡ true → handled inner cs env fault ≡ handled inner' cs other fault
  handled-same p.no_catches fault w = refl
  handled-same (p.more_catches (p.catch_node error names body) cs) fault w =
      let ws = and_parts (catch_bound s (p.catch_node error names body)) (catches_bound s cs) w in
      let us = and_parts (may_bind s error.name) (is_bound (with_slot s error.name) body) ws.0 in
      ap₂ (λ x y. if catches names fault.code then x else y) (same-bound body (Some error) us.1 (text (code_text fault.code) ∷ [])) (handled-same cs fault ws.1)

  or_handled-same : (cs : PlainCatches Slot Target SeqType) (r : Outcome) → catches_bound s cs ≡ true → or_handled inner cs env r ≡ or_handled inner' cs other r
  or_handled-same cs (Ok value) w = refl
  or_handled-same cs (Err fault) w = handled-same cs fault w

  pub try-same : (body : BoundTree) (cs : PlainCatches Slot Target SeqType) → (is_bound s body && catches_bound s cs) ≡ true → try_value inner body cs env ≡ try_value inner' body cs other
  unfolding try_value
  try-same body cs w =
      let ws = and_parts (is_bound s body) (catches_bound s cs) w in
      or_handled-same cs (inner body env) ws.1 ∙ ap (or_handled inner' cs other) (same body ws.0)

  -- ---- calls

  arguments-same : (es : Trees Slot Target SeqType) → trees_bound s es ≡ true → arguments_value inner es env ≡ arguments_value inner' es other
  arguments-same p.no_trees w = refl
  arguments-same (p.more_trees e es) w =
      let ws = and_parts (is_bound s e) (trees_bound s es) w in
      simp (same e ws.0, arguments-same es ws.1)

  pub call-same : (program program' : Program) (place : ℕ) (function : Target) (es : Trees Slot Target SeqType) → SameBehind program program' inner inner' place env other function → trees_bound s es ≡ true → call_value program inner place function es env ≡ call_value program' inner' place function es other
  unfolding call_value
  call-same program program' place (Built id) es h w = rw (arguments-same es w)
  call-same program program' place (Own n) es h w =
      then_same (λ values. declared_value program inner place (slice_get program.functions n) values env) (λ values. declared_value program' inner' place (slice_get program'.functions n) values other) (arguments_value inner es env) (arguments_value inner' es other) (arguments-same es w) h
  call-same program program' place (Lines names) es h w = h

-- ---- `some` and `every`

module _ (globals : ℕ) (functions : List ℕ) (inner inner' : Inner) (looks : Looks globals functions inner inner') (quantifier : Quantifier) (test : BoundTree) where
  over-same : (s : Scope) (bs : PlainBinds Slot Target SeqType) → binds_bound s bs ≡ true → is_bound (after_binds s bs) test ≡ true → (env other : Environment) → Sees globals functions s env other → quantified_over inner quantifier bs test env ≡ quantified_over inner' quantifier bs test other
  over-same s p.no_binds w v env other sees = truth-same globals functions inner inner' looks s env other sees test v
  over-same s (p.more_binds (p.bind_node variable t source) bs) w v env other sees =
      let ws = and_parts (bind_bound s (p.bind_node variable t source)) (binds_bound (with_slot s variable.name) bs) w in
      let us = and_parts (may_bind s variable.name) (is_bound s source) ws.0 in
      then_same
      (λ items. quantified quantifier (λ x. typed variable.place t (x ∷ []) >>= λ value. quantified_over inner quantifier bs test (binding env variable.name value)) items)
      (λ items. quantified quantifier (λ x. typed variable.place t (x ∷ []) >>= λ value. quantified_over inner' quantifier bs test (binding other variable.name value)) items)
      (inner source env) (inner' source other) (looks s source us.1 env other sees)
      (λ items. ap (λ f. quantified quantifier f items) (fun_ext (λ x. ap (λ k. typed variable.place t (x ∷ []) >>= k) (fun_ext (λ value. over-same (with_slot s variable.name) bs ws.1 v (binding env variable.name value) (binding other variable.name value) (binding-sees globals functions s env other variable.name value sees))))))

  pub quantified-same : (s : Scope) (bs : PlainBinds Slot Target SeqType) → binds_bound s bs ≡ true → is_bound (after_binds s bs) test ≡ true → (env other : Environment) → Sees globals functions s env other → quantified_value inner quantifier bs test env ≡ quantified_value inner' quantifier bs test other
  unfolding quantified_value
  quantified-same s bs w v env other sees = rw (over-same s bs w v env other sees)
