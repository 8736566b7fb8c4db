-- An expression finds nothing in its environment but the sources that it names, and nothing in the
-- program but what its calls look for. For other crates too.
use Rattle.std.proofs.Common.{◌≡◌, ℕ, zero, suc, length, List, [], ◌∷◌, Ok, refl, ap}
use Rattle.std.specs.Prelude.{IfSome}
use Rattle.std.specs.List.{AllByRecursion, flat_map, filter_map}
use Rattle.std.proofs.lemmas.List.Elements.{recursion_from_All}
use Rattle.seq_types.specs.declared.types.SeqType.{SeqType}
use Rattle.query_tree.specs.declared.bound.Slot.{Slot}
use Rattle.query_tree.specs.declared.bound.Target.{Target}
use Rattle.query_tree.specs.Bound.{BoundTree}
use Rattle.query_tree.specs.Calls.{form_call, own_call, calls}
use Rattle.query_tree.specs.Modules.{PlainFunction}
use Rattle.query_tree.specs.Plain as p
use Rattle.query_tree.specs.Plain.{Form}
use Rattle.query_tree.specs.Subtrees.{subtrees, form_subtrees, binds_subtrees}
use Rattle.query_meaning.specs.Environment.{Environment, Inner, item_or_fault}
use Rattle.query_meaning.specs.Calls.{Program}
use Rattle.query_meaning.specs.Meaning.{meaning, eval}
use Rattle.query_meaning.specs.Sources.{Source, form_sources, own_sources, sources, SameIn}
use Rattle.meaning_laws.specs.Agreement.{FitsBoth, names_called, names_in_bodies, sources_in_bodies, SameFunctions, SameForCall}
use Rattle.meaning_laws.specs.Laws.{EvalFindsCalls}
use Rattle.meaning_laws.proofs.Alike.{both_parts, halves, Alike, Within, Looks, value-same}
use Rattle.meaning_laws.proofs.AlikeParts.{content-same, comma-same, map-same, concat-same, or-same, and-same, not-same, compare-same, range-same, sum-same, product-same, sign-same, instance-same, treat-same, cast-same, castable-same, postfix-same, array-same, merge-same, object-same, if-same, switch-same, typeswitch-same, try-same, call-same, quantified-same}
use Rattle.meaning_laws.proofs.AlikeClauses.{flwor-same}
use Rattle.meaning_laws.proofs.Calling.{of_any, of_both, each_call, Agree, calls-find, SameBody, behind-same}

-- what a node finds itself
abbrev pub Finds : (Source → Type 0) → Program → Program → BoundTree → Type 0
Finds R program program' t = AllByRecursion R (own_sources t) × IfSome (own_call t) (λ c. SameForCall program program' c.name)

module _ (R : Source → Type 0) (program program' : Program) (inner inner' : Inner) (looks : Looks R (Finds R program program') inner inner') (bodies : SameFunctions program program' → AllByRecursion (SameBody program program' inner inner') program.functions) (env other : Environment) (alike : Alike R env other) where
  -- what the trees of a node find
  abbrev P : BoundTree → Type 0
  P t = Finds R program program' t

  form-same : (place : ℕ) (form : Form Slot Target SeqType) → AllByRecursion R (form_sources form) → IfSome (form_call place form) (λ c. SameForCall program program' c.name) → Within P (form_subtrees form) → meaning program inner place form env ≡ meaning program' inner' place form other
  unfolding meaning
  form-same place (p.int_form value) s c w = refl
  form-same place (p.dec_form value) s c w = refl
  form-same place (p.text_form value) s c w = refl
  form-same place p.true_form s c w = refl
  form-same place p.false_form s c w = refl
  form-same place p.null_form s c w = refl
  form-same place (p.var_form variable) s c w = ap Ok (value-same R env other variable alike s.0)
  form-same place p.context_form s c w = ap (item_or_fault place) (alike.context s.0)
  form-same place (p.paren_form content) s c w = content-same R P inner inner' looks env other alike content w
  form-same place (p.comma_form first rest) s c w = comma-same R P inner inner' looks env other alike first rest w
  form-same place (p.flwor_form clauses return_place result) s c w = flwor-same R P inner inner' looks env other alike clauses result s w
  form-same place (p.quant_form quantifier binds test) s c w =
      let ws = halves P (binds_subtrees binds) (subtrees test) w in
      quantified-same R P inner inner' looks quantifier test ws.1 binds ws.0 env other alike
  form-same place (p.switch_form operand cases default) s c w = switch-same R P inner inner' looks env other alike place operand cases default w
  form-same place (p.typeswitch_form operand cases variable default) s c w = typeswitch-same R P inner inner' looks env other alike operand cases variable default w
  form-same place (p.if_form condition when_true when_false) s c w = if-same R P inner inner' looks env other alike condition when_true when_false w
  form-same place (p.try_form body catches) s c w = try-same R P inner inner' looks env other alike body catches w
  form-same place (p.or_form first rest) s c w = or-same R P inner inner' looks env other alike first rest w
  form-same place (p.and_form first rest) s c w = and-same R P inner inner' looks env other alike first rest w
  form-same place (p.not_form operand) s c w = not-same R P inner inner' looks env other alike operand w
  form-same place (p.compare_form left op at right) s c w = compare-same R P inner inner' looks env other alike left op at right w
  form-same place (p.concat_form first rest) s c w = concat-same R P inner inner' looks env other alike first rest w
  form-same place (p.range_form left at right) s c w = range-same R P inner inner' looks env other alike left at right w
  form-same place (p.sum_form first rest) s c w = sum-same R P inner inner' looks env other alike first rest w
  form-same place (p.product_form first rest) s c w = product-same R P inner inner' looks env other alike first rest w
  form-same place (p.instance_form operand at t) s c w = instance-same R P inner inner' looks env other alike operand t w
  form-same place (p.treat_form operand at t) s c w = treat-same R P inner inner' looks env other alike operand at t w
  form-same place (p.castable_form operand at t) s c w = castable-same R P inner inner' looks env other alike operand t w
  form-same place (p.cast_form operand at t) s c w = cast-same R P inner inner' looks env other alike operand at t w
  form-same place (p.sign_form signs operand) s c w = sign-same R P inner inner' looks env other alike place signs operand w
  form-same place (p.map_form first rest) s c w = map-same R P inner inner' looks env other alike first rest w
  form-same place (p.postfix_form primary steps) s c w = postfix-same R P inner inner' looks env other alike primary steps s w
  form-same place (p.object_form pairs) s c w = object-same R P inner inner' looks env other alike place pairs w
  form-same place (p.merge_form content) s c w = merge-same R P inner inner' looks env other alike place content w
  form-same place (p.array_form content) s c w = array-same R P inner inner' looks env other alike place content w
  form-same place (p.call_form function arguments) s c w = call-same R P inner inner' looks env other alike program program' place function arguments (behind-same program program' inner inner' R env other alike bodies place function s c) w

-- where all sources are the same
abbrev pub Anything : Source → Type 0
Anything source = Unit {0}

pub any_alike : (env : Environment) → Alike Anything env env
any_alike env = record { tuples = record { there = λ n r. (λ l. l, λ l. l); values = λ n r. refl }; outer = λ n r. refl; declared = λ r. refl; context = λ r. refl }

-- what all nodes of some find is what each of them finds
each_finds : (R : Source → Type 0) (ts : List BoundTree) → AllByRecursion R (flat_map own_sources ts) → AllByRecursion (λ t. AllByRecursion R (own_sources t)) ts
each_finds R [] h = tt
each_finds R (t ∷ ts) h =
    let parts = both_parts R (own_sources t) (flat_map own_sources ts) h in
    (parts.0, each_finds R ts parts.1)

module _ (program program' : Program) where
  -- trees whose sources are among these, and whose calls find the same
  pub with_sources : (R : Source → Type 0) (ts : List BoundTree) → AllByRecursion R (flat_map own_sources ts) → AllByRecursion (λ c. SameForCall program program' c.name) (filter_map own_call ts) → Within (Finds R program program') ts
  with_sources R ts s h =
      of_both (λ u. AllByRecursion R (own_sources u)) (λ u. IfSome (own_call u) (λ c. SameForCall program program' c.name)) ts
      (each_finds R ts s) (each_call (λ c. SameForCall program program' c.name) ts h)

  -- trees whose calls find the same, whatever they read
  pub with_anything : (ts : List BoundTree) → AllByRecursion (λ c. SameForCall program program' c.name) (filter_map own_call ts) → Within (Finds Anything program program') ts
  with_anything ts h = with_sources Anything ts (of_any Anything (λ s. tt) (flat_map own_sources ts)) h

  abbrev InFrames : Source → Type 0
  InFrames source = FitsBoth program.width program'.width source

  bodies-same : (inner inner' : Inner) → Looks InFrames (Finds InFrames program program') inner inner' → SameFunctions program program' → (fs : List (PlainFunction Slot Target SeqType)) → AllByRecursion InFrames (sources_in_bodies fs) → AllByRecursion (Agree program.library program'.library) (names_in_bodies fs) → AllByRecursion (SameBody program program' inner inner') fs
  bodies-same inner inner' looks functions [] s h = tt
  bodies-same inner inner' looks functions (f ∷ fs) s h =
      let slots = both_parts InFrames (sources f.body) (sources_in_bodies fs) s in
      let parts = both_parts (Agree program.library program'.library) (names_called f.body) (names_in_bodies fs) h in (
        λ env other alike. looks f.body (with_sources InFrames (subtrees f.body) slots.0 (calls-find program program' (calls f.body) parts.0 (λ e. functions))) env other alike,
        bodies-same inner inner' looks functions fs slots.1 parts.1,
      )

  all-bodies : (inner inner' : Inner) → Looks InFrames (Finds InFrames program program') inner inner' → SameFunctions program program' → AllByRecursion (SameBody program program' inner inner') program.functions
  all-bodies inner inner' looks functions =
      bodies-same inner inner' looks functions program.functions
      (recursion_from_All InFrames (sources_in_bodies program.functions) functions.slots)
      (recursion_from_All (Agree program.library program'.library) (names_in_bodies program.functions) functions.inputs)

  pub eval-looks : (depth : ℕ) (R : Source → Type 0) (t : BoundTree) → Within (Finds R program program') (subtrees t) → (env other : Environment) → Alike R env other → eval program depth t env ≡ eval program' depth t other
  eval-looks zero R (p.tree_node place form) w env other alike = refl
  eval-looks (suc depth) R (p.tree_node place form) w env other alike =
      form-same R program program' (eval program depth) (eval program' depth)
      (λ t v env' other' alike'. eval-looks depth R t v env' other' alike')
      (all-bodies (eval program depth) (eval program' depth) (λ t v env' other' alike'. eval-looks depth InFrames t v env' other' alike'))
      env other alike place form w.0.0 w.0.1 w.1

-- what is the same in two environments, and in the frames of both if it is a slot
abbrev pub InBoth : Environment → Environment → Source → Type 0
InBoth env other source = FitsBoth (length env.frame) (length other.frame) source × SameIn env other source

first_alike : (env other : Environment) → Alike (InBoth env other) env other
first_alike env other = record {
  tuples = record { there = λ n r. r.0; values = λ n r. r.1 };
  outer = λ n r. r.1;
  declared = λ r. r.1;
  context = λ r. r.1;
}

pub finds_calls : EvalFindsCalls
finds_calls program program' depth t env other c h =
    eval-looks program program' depth (InBoth env other) t
    (with_sources program program' (InBoth env other) (subtrees t)
    (of_both (FitsBoth (length env.frame) (length other.frame)) (SameIn env other) (sources t)
    (recursion_from_All (FitsBoth (length env.frame) (length other.frame)) (sources t) h.slots)
    (recursion_from_All (SameIn env other) (sources t) h.found))
    (recursion_from_All (λ d. SameForCall program program' d.name) (calls t) c))
    env other (first_alike env other)
