-- What the parts of an expression come to where the sources that they find are the same: all kinds
-- but FLWORs.
use mathlib.Core.Path.{fun_ext}
use Rattle.std.proofs.Common.{◌≡◌, ℕ, if◌then◌else◌, List, [], ◌∷◌, ◌++◌, slice_get, Option, Some, Ok, Err, refl, ap, ap₂, ◌∙◌}
use Rattle.std.specs.List.{AllByRecursion}
use Rattle.item_tree.specs.declared.fault.Fault.{Fault}
use Rattle.item_tree.specs.Datum.{Datum, text}
use Rattle.item_tree.specs.Codes.{code_text}
use Rattle.seq_types.specs.declared.types.SeqType.{SeqType}
use Rattle.query_tree.specs.declared.bound.Slot.{Slot}
use Rattle.query_tree.specs.declared.bound.Target.{Target}
use Rattle.query_tree.specs.declared.bound.Target.TheVariants.{Built, Own, Lines}
use Rattle.query_tree.specs.declared.names.Placed.{Placed}
use Rattle.query_tree.specs.declared.operator.CompareOp.{CompareOp}
use Rattle.query_tree.specs.declared.operator.Quantifier.{Quantifier}
use Rattle.query_tree.specs.declared.operator.SumOp.{SumOp}
use Rattle.query_tree.specs.Bound.{BoundTree}
use Rattle.query_tree.specs.Plain as p
use Rattle.query_tree.specs.Plain.{Trees, MaybeTree, PlainOperand, PlainOperands, PlainTerm, PlainTerms, PlainFactor, PlainFactors, PlainBinds, PlainCases, PlainTypeCases, PlainCatches, PlainPair, PlainPairs, PlainStep, PlainSteps, PlainLookup}
use Rattle.query_tree.specs.Subtrees.{subtrees, content_subtrees, trees_subtrees, operand_subtrees, operands_subtrees, term_subtrees, terms_subtrees, factor_subtrees, factors_subtrees, binds_subtrees, case_subtrees, cases_subtrees, type_cases_subtrees, catches_subtrees, pair_subtrees, pairs_subtrees, step_subtrees, steps_subtrees, lookup_subtrees}
use Rattle.query_meaning.specs.Outcome.{Outcome, ◌>>=◌, joined, each, each_from}
use Rattle.query_meaning.specs.Environment.{Environment, Inner, binding, with_item, item_or_fault}
use Rattle.query_meaning.specs.Checks.{truth_of, typed}
use Rattle.query_meaning.specs.Operators.{operands_value, comma_value, mapped_by, mapped, map_value, text_behind, texts_behind, concat_value, any_true, or_value, all_true, and_value, not_value, compare_value, range_value, with_term, with_terms, sum_value, with_factor, with_factors, product_value, sign_value, instance_value, treat_value, cast_to_value, castable_value}
use Rattle.query_meaning.specs.Paths.{kept, filtered, member_value, key_value, field_value, step_value, steps_value, postfix_value}
use Rattle.query_meaning.specs.Constructors.{content_value, array_value, entry_of, entries_of, object_value, merge_value}
use Rattle.query_meaning.specs.Choices.{if_value, switched, any_matches, case_chosen, switch_value, binding_any, fits_any, type_case_chosen, typeswitch_value, catches, handled, or_handled, try_value, quantified, quantified_over, quantified_value}
use Rattle.query_meaning.specs.Calls.{Program, arguments_value, declared_value, call_value}
use Rattle.query_meaning.specs.Library.{lines_value}
use Rattle.query_meaning.specs.Sources.{Source, lookup_sources, step_sources, steps_sources}
use Rattle.meaning_laws.proofs.Alike.{both_parts, halves, then_same, Alike, Within, Looks, binding-alike, binding_any-alike, with_item-alike, value-same}

-- what comes of a call once its arguments are there
abbrev pub SameBehind : Program → Program → Inner → Inner → ℕ → Environment → Environment → Target → Type 0
SameBehind program program' inner inner' place env other (Built id) = Unit {0}
SameBehind program program' inner inner' place env other (Own n) = (values : List (List Datum)) → declared_value program inner place (slice_get program.functions n) values env ≡ declared_value program' inner' place (slice_get program'.functions n) values other
SameBehind program program' inner inner' place env other (Lines names) = lines_value program.library names place ≡ lines_value program'.library names place

module _ (R : Source → Type 0) (P : BoundTree → Type 0) (inner inner' : Inner) (looks : Looks R P inner inner') (env other : Environment) (alike : Alike R env other) where
  pub same : (e : BoundTree) → Within P (subtrees e) → inner e env ≡ inner' e other
  same e w = looks e w env other alike

  pub truth-same : (e : BoundTree) → Within P (subtrees e) → truth_of inner e env ≡ truth_of inner' e other
  truth-same e w = rw (same e w)

  pub content-same : (c : MaybeTree Slot Target SeqType) → Within P (content_subtrees c) → content_value inner c env ≡ content_value inner' c other
  content-same p.no_tree w = refl
  content-same (p.one_tree e) w = same e w

  -- with an item of a list as `$$`
  same-at : (e : BoundTree) → Within P (subtrees e) → (x : Datum) → inner e (with_item env x) ≡ inner' e (with_item other x)
  same-at e w x = looks e w (with_item env x) (with_item other x) (with_item-alike R env other x alike)

  -- ---- operators

  operands-same : (os : PlainOperands Slot Target SeqType) → Within P (operands_subtrees os) → operands_value inner os env ≡ operands_value inner' os other
  operands-same p.no_operands w = refl
  operands-same (p.more_operands (p.operand_node place e) os) w =
      let ws = halves P (subtrees e) (operands_subtrees os) w in
      ap₂ joined (same e ws.0) (operands-same os ws.1)

  pub comma-same : (first : BoundTree) (rest : PlainOperands Slot Target SeqType) → Within P (subtrees first ++ operands_subtrees rest) → comma_value inner first rest env ≡ comma_value inner' first rest other
  unfolding comma_value
  comma-same first rest w =
      let ws = halves P (subtrees first) (operands_subtrees rest) w in
      ap₂ joined (same first ws.0) (operands-same rest ws.1)

  mapped_by-same : (o : PlainOperand Slot Target SeqType) → Within P (operand_subtrees o) → (value : List Datum) → mapped_by inner o env value ≡ mapped_by inner' o other value
  unfolding mapped_by
  mapped_by-same (p.operand_node place e) w value = ap (λ f. each f value) (fun_ext (same-at e w))

  mapped-same : (os : PlainOperands Slot Target SeqType) → Within P (operands_subtrees os) → (value : List Datum) → mapped inner os env value ≡ mapped inner' os other value
  mapped-same p.no_operands w value = refl
  mapped-same (p.more_operands o os) w value =
      let ws = halves P (operand_subtrees o) (operands_subtrees os) w in
      then_same (mapped inner os env) (mapped inner' os other) (mapped_by inner o env value) (mapped_by inner' o other value) (mapped_by-same o ws.0 value) (mapped-same os ws.1)

  pub map-same : (first : BoundTree) (rest : PlainOperands Slot Target SeqType) → Within P (subtrees first ++ operands_subtrees rest) → map_value inner first rest env ≡ map_value inner' first rest other
  unfolding map_value
  map-same first rest w =
      let ws = halves P (subtrees first) (operands_subtrees rest) w in
      then_same (mapped inner rest env) (mapped inner' rest other) (inner first env) (inner' first other) (same first ws.0) (mapped-same rest ws.1)

  text-same : (o : PlainOperand Slot Target SeqType) → Within P (operand_subtrees o) → (left : List Datum) → text_behind inner o env left ≡ text_behind inner' o other left
  unfolding text_behind
  text-same (p.operand_node place e) w left = rw (same e w)

  texts-same : (os : PlainOperands Slot Target SeqType) → Within P (operands_subtrees os) → (value : List Datum) → texts_behind inner os env value ≡ texts_behind inner' os other value
  texts-same p.no_operands w value = refl
  texts-same (p.more_operands o os) w value =
      let ws = halves P (operand_subtrees o) (operands_subtrees os) w in
      then_same (texts_behind inner os env) (texts_behind inner' os other) (text_behind inner o env value) (text_behind inner' o other value) (text-same o ws.0 value) (texts-same os ws.1)

  pub concat-same : (first : BoundTree) (rest : PlainOperands Slot Target SeqType) → Within P (subtrees first ++ operands_subtrees rest) → concat_value inner first rest env ≡ concat_value inner' first rest other
  unfolding concat_value
  concat-same first rest w =
      let ws = halves P (subtrees first) (operands_subtrees rest) w in
      then_same (texts_behind inner rest env) (texts_behind inner' rest other) (inner first env) (inner' first other) (same first ws.0) (texts-same rest ws.1)

  any-same : (os : PlainOperands Slot Target SeqType) → Within P (operands_subtrees os) → any_true inner os env ≡ any_true inner' os other
  any-same p.no_operands w = refl
  any-same (p.more_operands (p.operand_node place e) os) w =
      let ws = halves P (subtrees e) (operands_subtrees os) w in
      simp (same e ws.0, any-same os ws.1)

  pub or-same : (first : BoundTree) (rest : PlainOperands Slot Target SeqType) → Within P (subtrees first ++ operands_subtrees rest) → or_value inner first rest env ≡ or_value inner' first rest other
  unfolding or_value
  or-same first rest w =
      let ws = halves P (subtrees first) (operands_subtrees rest) w in
      simp (same first ws.0, any-same rest ws.1)

  all-same : (os : PlainOperands Slot Target SeqType) → Within P (operands_subtrees os) → all_true inner os env ≡ all_true inner' os other
  all-same p.no_operands w = refl
  all-same (p.more_operands (p.operand_node place e) os) w =
      let ws = halves P (subtrees e) (operands_subtrees os) w in
      simp (same e ws.0, all-same os ws.1)

  pub and-same : (first : BoundTree) (rest : PlainOperands Slot Target SeqType) → Within P (subtrees first ++ operands_subtrees rest) → and_value inner first rest env ≡ and_value inner' first rest other
  unfolding and_value
  and-same first rest w =
      let ws = halves P (subtrees first) (operands_subtrees rest) w in
      simp (same first ws.0, all-same rest ws.1)

  pub not-same : (e : BoundTree) → Within P (subtrees e) → not_value inner e env ≡ not_value inner' e other
  unfolding not_value
  not-same e w = rw (same e w)

  pub compare-same : (left : BoundTree) (op : CompareOp) (place : ℕ) (right : BoundTree) → Within P (subtrees left ++ subtrees right) → compare_value inner left op place right env ≡ compare_value inner' left op place right other
  unfolding compare_value
  compare-same left op place right w =
      let ws = halves P (subtrees left) (subtrees right) w in
      simp (same left ws.0, same right ws.1)

  pub range-same : (left : BoundTree) (place : ℕ) (right : BoundTree) → Within P (subtrees left ++ subtrees right) → range_value inner left place right env ≡ range_value inner' left place right other
  unfolding range_value
  range-same left place right w =
      let ws = halves P (subtrees left) (subtrees right) w in
      simp (same left ws.0, same right ws.1)

  term-same : (t : PlainTerm Slot Target SeqType) → Within P (term_subtrees t) → (left : List Datum) → with_term inner t env left ≡ with_term inner' t other left
  unfolding with_term
  term-same (p.term_node op place e) w left = rw (same e w)

  terms-same : (ts : PlainTerms Slot Target SeqType) → Within P (terms_subtrees ts) → (value : List Datum) → with_terms inner ts env value ≡ with_terms inner' ts other value
  terms-same p.no_terms w value = refl
  terms-same (p.more_terms t ts) w value =
      let ws = halves P (term_subtrees t) (terms_subtrees ts) w in
      then_same (with_terms inner ts env) (with_terms inner' ts other) (with_term inner t env value) (with_term inner' t other value) (term-same t ws.0 value) (terms-same ts ws.1)

  pub sum-same : (first : BoundTree) (rest : PlainTerms Slot Target SeqType) → Within P (subtrees first ++ terms_subtrees rest) → sum_value inner first rest env ≡ sum_value inner' first rest other
  unfolding sum_value
  sum-same first rest w =
      let ws = halves P (subtrees first) (terms_subtrees rest) w in
      then_same (with_terms inner rest env) (with_terms inner' rest other) (inner first env) (inner' first other) (same first ws.0) (terms-same rest ws.1)

  factor-same : (f : PlainFactor Slot Target SeqType) → Within P (factor_subtrees f) → (left : List Datum) → with_factor inner f env left ≡ with_factor inner' f other left
  unfolding with_factor
  factor-same (p.factor_node op place e) w left = rw (same e w)

  factors-same : (fs : PlainFactors Slot Target SeqType) → Within P (factors_subtrees fs) → (value : List Datum) → with_factors inner fs env value ≡ with_factors inner' fs other value
  factors-same p.no_factors w value = refl
  factors-same (p.more_factors f fs) w value =
      let ws = halves P (factor_subtrees f) (factors_subtrees fs) w in
      then_same (with_factors inner fs env) (with_factors inner' fs other) (with_factor inner f env value) (with_factor inner' f other value) (factor-same f ws.0 value) (factors-same fs ws.1)

  pub product-same : (first : BoundTree) (rest : PlainFactors Slot Target SeqType) → Within P (subtrees first ++ factors_subtrees rest) → product_value inner first rest env ≡ product_value inner' first rest other
  unfolding product_value
  product-same first rest w =
      let ws = halves P (subtrees first) (factors_subtrees rest) w in
      then_same (with_factors inner rest env) (with_factors inner' rest other) (inner first env) (inner' first other) (same first ws.0) (factors-same rest ws.1)

  pub sign-same : (place : ℕ) (signs : List (SumOp × ℕ)) (e : BoundTree) → Within P (subtrees e) → sign_value inner place signs e env ≡ sign_value inner' place signs e other
  unfolding sign_value
  sign-same place signs e w = rw (same e w)

  pub instance-same : (e : BoundTree) (t : Placed SeqType) → Within P (subtrees e) → instance_value inner e t env ≡ instance_value inner' e t other
  unfolding instance_value
  instance-same e t w = rw (same e w)

  pub treat-same : (e : BoundTree) (place : ℕ) (t : Placed SeqType) → Within P (subtrees e) → treat_value inner e place t env ≡ treat_value inner' e place t other
  unfolding treat_value
  treat-same e place t w = rw (same e w)

  pub cast-same : (e : BoundTree) (place : ℕ) (t : Placed SeqType) → Within P (subtrees e) → cast_to_value inner e place t env ≡ cast_to_value inner' e place t other
  unfolding cast_to_value
  cast-same e place t w = rw (same e w)

  pub castable-same : (e : BoundTree) (t : Placed SeqType) → Within P (subtrees e) → castable_value inner e t env ≡ castable_value inner' e t other
  unfolding castable_value
  castable-same e t w = rw (same e w)

  -- ---- paths

  kept-same : (place : ℕ) (test : BoundTree) → Within P (subtrees test) → (position : ℕ) (x : Datum) → kept inner place test env position x ≡ kept inner' place test other position x
  unfolding kept
  kept-same place test w position x = rw (same-at test w x)

  filtered-same : (place : ℕ) (test : BoundTree) → Within P (subtrees test) → (value : List Datum) → filtered inner place test env value ≡ filtered inner' place test other value
  unfolding filtered
  filtered-same place test w value = ap (λ f. each_from f 1 value) (fun_ext (λ n. fun_ext (kept-same place test w n)))

  member-same : (place : ℕ) (position : BoundTree) → Within P (subtrees position) → (value : List Datum) → member_value inner place position env value ≡ member_value inner' place position other value
  unfolding member_value
  member-same place position w value = rw (same position w)

  key-same : (key : PlainLookup Slot Target SeqType) → AllByRecursion R (lookup_sources key) → Within P (lookup_subtrees key) → key_value inner key env ≡ key_value inner' key other
  unfolding key_value
  key-same (p.name_lookup name) s w = refl
  key-same (p.text_lookup value) s w = refl
  key-same (p.var_lookup variable) s w = ap Ok (value-same R env other variable.name alike s.0)
  key-same (p.context_lookup place) s w = ap (item_or_fault place) (alike.context s.0)
  key-same (p.computed_lookup e) s w = same e w

  field-same : (place : ℕ) (key : PlainLookup Slot Target SeqType) → AllByRecursion R (lookup_sources key) → Within P (lookup_subtrees key) → (value : List Datum) → field_value inner place key env value ≡ field_value inner' place key other value
  unfolding field_value
  field-same place key s w value = rw (key-same key s w)

  step-same : (s : PlainStep Slot Target SeqType) → AllByRecursion R (step_sources s) → Within P (step_subtrees s) → (value : List Datum) → step_value inner s env value ≡ step_value inner' s other value
  step-same (p.members_step place) s w value = refl
  step-same (p.member_step place position) s w value = member-same place position w value
  step-same (p.filter_step place test) s w value = filtered-same place test w value
  step-same (p.field_step place key) s w value = field-same place key s w value

  steps-same : (ss : PlainSteps Slot Target SeqType) → AllByRecursion R (steps_sources ss) → Within P (steps_subtrees ss) → (value : List Datum) → steps_value inner ss env value ≡ steps_value inner' ss other value
  steps-same p.no_steps f w value = refl
  steps-same (p.more_steps s ss) f w value =
      let fs = both_parts R (step_sources s) (steps_sources ss) f in
      let ws = halves P (step_subtrees s) (steps_subtrees ss) w in
      then_same (steps_value inner ss env) (steps_value inner' ss other) (step_value inner s env value) (step_value inner' s other value) (step-same s fs.0 ws.0 value) (steps-same ss fs.1 ws.1)

  pub postfix-same : (primary : BoundTree) (ss : PlainSteps Slot Target SeqType) → AllByRecursion R (steps_sources ss) → Within P (subtrees primary ++ steps_subtrees ss) → postfix_value inner primary ss env ≡ postfix_value inner' primary ss other
  unfolding postfix_value
  postfix-same primary ss f w =
      let ws = halves P (subtrees primary) (steps_subtrees ss) w in
      then_same (steps_value inner ss env) (steps_value inner' ss other) (inner primary env) (inner' primary other) (same primary ws.0) (steps-same ss f ws.1)

  -- ---- arrays and objects

  pub array-same : (place : ℕ) (c : MaybeTree Slot Target SeqType) → Within P (content_subtrees c) → array_value inner place c env ≡ array_value inner' place c other
  unfolding array_value
  array-same place c w = rw (content-same c w)

  pub merge-same : (place : ℕ) (c : MaybeTree Slot Target SeqType) → Within P (content_subtrees c) → merge_value inner place c env ≡ merge_value inner' place c other
  unfolding merge_value
  merge-same place c w = rw (content-same c w)

  entry-same : (q : PlainPair Slot Target SeqType) → Within P (pair_subtrees q) → entry_of inner q env ≡ entry_of inner' q other
  unfolding entry_of
  entry-same (p.named_pair name place e) w = rw (same e w)
  entry-same (p.computed_pair key place e) w =
      let ws = halves P (subtrees key) (subtrees e) w in
      simp (same key ws.0, same e ws.1)

  entries-same : (qs : PlainPairs Slot Target SeqType) → Within P (pairs_subtrees qs) → entries_of inner qs env ≡ entries_of inner' qs other
  entries-same p.no_pairs w = refl
  entries-same (p.more_pairs q qs) w =
      let ws = halves P (pair_subtrees q) (pairs_subtrees qs) w in
      simp (entry-same q ws.0, entries-same qs ws.1)

  pub object-same : (place : ℕ) (qs : PlainPairs Slot Target SeqType) → Within P (pairs_subtrees qs) → object_value inner place qs env ≡ object_value inner' place qs other
  unfolding object_value
  object-same place qs w = rw (entries-same qs w)

  -- ---- choices

  pub if-same : (condition when_true when_false : BoundTree) → Within P (subtrees condition ++ subtrees when_true ++ subtrees when_false) → if_value inner condition when_true when_false env ≡ if_value inner' condition when_true when_false other
  unfolding if_value
  if-same condition when_true when_false w =
      let ws = halves P (subtrees condition ++ subtrees when_true) (subtrees when_false) w in
      let vs = halves P (subtrees condition) (subtrees when_true) ws.0 in
      simp (same condition vs.0, same when_true vs.1, same when_false ws.1)

  switched-same : (place : ℕ) (e : BoundTree) → Within P (subtrees e) → switched inner place e env ≡ switched inner' place e other
  switched-same place e w = rw (same e w)

  matches-same : (key : Option Datum) (es : Trees Slot Target SeqType) → Within P (trees_subtrees es) → any_matches inner key es env ≡ any_matches inner' key es other
  matches-same key p.no_trees w = refl
  matches-same key (p.more_trees e es) w =
      let ws = halves P (subtrees e) (trees_subtrees es) w in
      simp (same e ws.0, matches-same key es ws.1)

  case-same : (key : Option Datum) (cs : PlainCases Slot Target SeqType) (default : BoundTree) → Within P (cases_subtrees cs) → Within P (subtrees default) → case_chosen inner key cs default env ≡ case_chosen inner' key cs default other
  case-same key p.no_cases default w v = same default v
  case-same key (p.more_cases (p.case_node tests result) cs) default w v =
      let ws = halves P (case_subtrees (p.case_node tests result)) (cases_subtrees cs) w in
      let us = halves P (trees_subtrees tests) (subtrees result) ws.0 in
      simp (matches-same key tests us.0, same result us.1, case-same key cs default ws.1 v)

  pub switch-same : (place : ℕ) (operand : BoundTree) (cs : PlainCases Slot Target SeqType) (default : BoundTree) → Within P (subtrees operand ++ cases_subtrees cs ++ subtrees default) → switch_value inner place operand cs default env ≡ switch_value inner' place operand cs default other
  unfolding switch_value
  switch-same place operand cs default w =
      let ws = halves P (subtrees operand ++ cases_subtrees cs) (subtrees default) w in
      let vs = halves P (subtrees operand) (cases_subtrees cs) ws.0 in
      then_same (λ key. case_chosen inner key cs default env) (λ key. case_chosen inner' key cs default other) (switched inner place operand env) (switched inner' place operand other) (switched-same place operand vs.0) (λ key. case-same key cs default vs.1 ws.1)

  same-bound : (e : BoundTree) → Within P (subtrees e) → (variable : Option (Placed Slot)) (value : List Datum) → inner e (binding_any env variable value) ≡ inner' e (binding_any other variable value)
  same-bound e w variable value = looks e w (binding_any env variable value) (binding_any other variable value) (binding_any-alike R env other variable value alike)

  type_case-same : (value : List Datum) (cs : PlainTypeCases Slot Target SeqType) (variable : Option (Placed Slot)) (default : BoundTree) → Within P (type_cases_subtrees cs) → Within P (subtrees default) → type_case_chosen inner value cs variable default env ≡ type_case_chosen inner' value cs variable default other
  type_case-same value p.no_type_cases variable default w v = same-bound default v variable value
  type_case-same value (p.more_type_cases (p.type_case_node own types result) cs) variable default w v =
      let ws = halves P (subtrees result) (type_cases_subtrees cs) w in
      ap₂ (λ x y. if fits_any types value then x else y) (same-bound result ws.0 own value) (type_case-same value cs variable default ws.1 v)

  pub typeswitch-same : (operand : BoundTree) (cs : PlainTypeCases Slot Target SeqType) (variable : Option (Placed Slot)) (default : BoundTree) → Within P (subtrees operand ++ type_cases_subtrees cs ++ subtrees default) → typeswitch_value inner operand cs variable default env ≡ typeswitch_value inner' operand cs variable default other
  unfolding typeswitch_value
  typeswitch-same operand cs variable default w =
      let ws = halves P (subtrees operand ++ type_cases_subtrees cs) (subtrees default) w in
      let vs = halves P (subtrees operand) (type_cases_subtrees cs) ws.0 in
      then_same (λ value. type_case_chosen inner value cs variable default env) (λ value. type_case_chosen inner' value cs variable default other) (inner operand env) (inner' operand other) (same operand vs.0) (λ value. type_case-same value cs variable default vs.1 ws.1)

  handled-same : (cs : PlainCatches Slot Target SeqType) (fault : Fault) → Within P (catches_subtrees cs) → handled inner cs env fault ≡ handled inner' cs other fault
  handled-same p.no_catches fault w = refl
  handled-same (p.more_catches (p.catch_node error names body) cs) fault w =
      let ws = halves P (subtrees body) (catches_subtrees cs) w in
      ap₂ (λ x y. if catches names fault.code then x else y) (same-bound body ws.0 (Some error) (text (code_text fault.code) ∷ [])) (handled-same cs fault ws.1)

  or_handled-same : (cs : PlainCatches Slot Target SeqType) (r : Outcome) → Within P (catches_subtrees cs) → or_handled inner cs env r ≡ or_handled inner' cs other r
  or_handled-same cs (Ok value) w = refl
  or_handled-same cs (Err fault) w = handled-same cs fault w

  pub try-same : (body : BoundTree) (cs : PlainCatches Slot Target SeqType) → Within P (subtrees body ++ catches_subtrees cs) → try_value inner body cs env ≡ try_value inner' body cs other
  unfolding try_value
  try-same body cs w =
      let ws = halves P (subtrees body) (catches_subtrees cs) w in
      or_handled-same cs (inner body env) ws.1 ∙ ap (or_handled inner' cs other) (same body ws.0)

  -- ---- calls

  arguments-same : (es : Trees Slot Target SeqType) → Within P (trees_subtrees es) → arguments_value inner es env ≡ arguments_value inner' es other
  arguments-same p.no_trees w = refl
  arguments-same (p.more_trees e es) w =
      let ws = halves P (subtrees e) (trees_subtrees es) w in
      simp (same e ws.0, arguments-same es ws.1)

  pub call-same : (program program' : Program) (place : ℕ) (function : Target) (es : Trees Slot Target SeqType) → SameBehind program program' inner inner' place env other function → Within P (trees_subtrees es) → call_value program inner place function es env ≡ call_value program' inner' place function es other
  unfolding call_value
  call-same program program' place (Built id) es h w = rw (arguments-same es w)
  call-same program program' place (Own n) es h w =
      then_same (λ values. declared_value program inner place (slice_get program.functions n) values env) (λ values. declared_value program' inner' place (slice_get program'.functions n) values other) (arguments_value inner es env) (arguments_value inner' es other) (arguments-same es w) h
  call-same program program' place (Lines names) es h w = h

-- ---- `some` and `every`

module _ (R : Source → Type 0) (P : BoundTree → Type 0) (inner inner' : Inner) (looks : Looks R P inner inner') (quantifier : Quantifier) (test : BoundTree) (v : Within P (subtrees test)) where
  over-same : (bs : PlainBinds Slot Target SeqType) → Within P (binds_subtrees bs) → (env other : Environment) → Alike R env other → quantified_over inner quantifier bs test env ≡ quantified_over inner' quantifier bs test other
  over-same p.no_binds w env other alike = truth-same R P inner inner' looks env other alike test v
  over-same (p.more_binds (p.bind_node variable t source) bs) w env other alike =
      let ws = halves P (subtrees source) (binds_subtrees bs) w in
      then_same
      (λ items. quantified quantifier (λ x. typed variable.place t (x ∷ []) >>= λ value. quantified_over inner quantifier bs test (binding env variable.name value)) items)
      (λ items. quantified quantifier (λ x. typed variable.place t (x ∷ []) >>= λ value. quantified_over inner' quantifier bs test (binding other variable.name value)) items)
      (inner source env) (inner' source other) (looks source ws.0 env other alike)
      (λ items. ap (λ f. quantified quantifier f items) (fun_ext (λ x. ap (λ k. typed variable.place t (x ∷ []) >>= k) (fun_ext (λ value. over-same bs ws.1 (binding env variable.name value) (binding other variable.name value) (binding-alike R env other variable.name value alike))))))

  pub quantified-same : (bs : PlainBinds Slot Target SeqType) → Within P (binds_subtrees bs) → (env other : Environment) → Alike R env other → quantified_value inner quantifier bs test env ≡ quantified_value inner' quantifier bs test other
  unfolding quantified_value
  quantified-same bs w env other alike = rw (over-same bs w env other alike)
