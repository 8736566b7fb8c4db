-- An expression finds nothing in its environment but the sources that it names.
use Rattle.std.proofs.Common.{◌≡◌, ℕ, zero, suc, List, [], ◌∷◌, Ok, refl, ap}
use Rattle.std.specs.List.{AllByRecursion, flat_map}
use Rattle.std.proofs.lemmas.List.Elements.{recursion_from_All}
use Rattle.seq_types.specs.declared.types.SeqType.{SeqType}
use Rattle.query_tree.specs.declared.bound.Slot.{Slot}
use Rattle.query_tree.specs.declared.bound.Target.{Target}
use Rattle.query_tree.specs.Bound.{BoundTree}
use Rattle.query_tree.specs.Plain as p
use Rattle.query_tree.specs.Plain.{Form}
use Rattle.query_tree.specs.Subtrees.{subtrees, form_subtrees, binds_subtrees}
use Rattle.query_meaning.specs.Environment.{Environment, Inner, item_or_fault}
use Rattle.query_meaning.specs.Calls.{Program}
use Rattle.query_meaning.specs.Meaning.{meaning, eval}
use Rattle.query_meaning.specs.Sources.{Source, form_sources, own_sources, sources, SameIn, FindsTheSame}
use Rattle.query_meaning.specs.Laws.{EvalFindsSources}
use Rattle.query_meaning.proofs.Alike.{both_parts, halves, Alike, Within, Looks, value-same}
use Rattle.query_meaning.proofs.AlikeParts.{content-same, comma-same, map-same, concat-same, or-same, and-same, not-same, compare-same, range-same, sum-same, product-same, sign-same, instance-same, treat-same, cast-same, castable-same, postfix-same, array-same, merge-same, object-same, if-same, switch-same, typeswitch-same, try-same, call-same, quantified-same}
use Rattle.query_meaning.proofs.AlikeClauses.{flwor-same}

module _ (R : Source → Type 0) (program : Program) (inner : Inner) (looks : Looks R inner) (env other : Environment) (alike : Alike R env other) where
  form-same : (place : ℕ) (form : Form Slot Target SeqType) → AllByRecursion R (form_sources form) → Within R (form_subtrees form) → meaning program inner place form env ≡ meaning program inner place form other
  unfolding meaning
  form-same place (p.int_form value) s w = refl
  form-same place (p.dec_form value) s w = refl
  form-same place (p.text_form value) s w = refl
  form-same place p.true_form s w = refl
  form-same place p.false_form s w = refl
  form-same place p.null_form s w = refl
  form-same place (p.var_form variable) s w = ap Ok (value-same R env other variable alike s.0)
  form-same place p.context_form s w = ap (item_or_fault place) (alike.context s.0)
  form-same place (p.paren_form content) s w = content-same R inner looks env other alike content w
  form-same place (p.comma_form first rest) s w = comma-same R inner looks env other alike first rest w
  form-same place (p.flwor_form clauses return_place result) s w = flwor-same R inner looks env other alike clauses result s w
  form-same place (p.quant_form quantifier binds test) s w =
      let ws = halves R (binds_subtrees binds) (subtrees test) w in
      quantified-same R inner looks quantifier test ws.1 binds ws.0 env other alike
  form-same place (p.switch_form operand cases default) s w = switch-same R inner looks env other alike place operand cases default w
  form-same place (p.typeswitch_form operand cases variable default) s w = typeswitch-same R inner looks env other alike operand cases variable default w
  form-same place (p.if_form condition when_true when_false) s w = if-same R inner looks env other alike condition when_true when_false w
  form-same place (p.try_form body catches) s w = try-same R inner looks env other alike body catches w
  form-same place (p.or_form first rest) s w = or-same R inner looks env other alike first rest w
  form-same place (p.and_form first rest) s w = and-same R inner looks env other alike first rest w
  form-same place (p.not_form operand) s w = not-same R inner looks env other alike operand w
  form-same place (p.compare_form left op at right) s w = compare-same R inner looks env other alike left op at right w
  form-same place (p.concat_form first rest) s w = concat-same R inner looks env other alike first rest w
  form-same place (p.range_form left at right) s w = range-same R inner looks env other alike left at right w
  form-same place (p.sum_form first rest) s w = sum-same R inner looks env other alike first rest w
  form-same place (p.product_form first rest) s w = product-same R inner looks env other alike first rest w
  form-same place (p.instance_form operand at t) s w = instance-same R inner looks env other alike operand t w
  form-same place (p.treat_form operand at t) s w = treat-same R inner looks env other alike operand at t w
  form-same place (p.castable_form operand at t) s w = castable-same R inner looks env other alike operand t w
  form-same place (p.cast_form operand at t) s w = cast-same R inner looks env other alike operand at t w
  form-same place (p.sign_form signs operand) s w = sign-same R inner looks env other alike place signs operand w
  form-same place (p.map_form first rest) s w = map-same R inner looks env other alike first rest w
  form-same place (p.postfix_form primary steps) s w = postfix-same R inner looks env other alike primary steps s w
  form-same place (p.object_form pairs) s w = object-same R inner looks env other alike place pairs w
  form-same place (p.merge_form content) s w = merge-same R inner looks env other alike place content w
  form-same place (p.array_form content) s w = array-same R inner looks env other alike place content w
  form-same place (p.call_form function arguments) s w = call-same R inner looks env other alike program place function arguments s w

module _ (R : Source → Type 0) (program : Program) where
  eval-looks : (depth : ℕ) (t : BoundTree) → Within R (subtrees t) → (env other : Environment) → Alike R env other → eval program depth t env ≡ eval program depth t other
  eval-looks zero (p.tree_node place form) w env other alike = refl
  eval-looks (suc depth) (p.tree_node place form) w env other alike =
      form-same R program (eval program depth) (λ t v env' other' alike'. eval-looks depth t v env' other' alike') env other alike place form w.0 w.1

-- what all nodes of some find is what each of them finds
each_finds : (R : Source → Type 0) (ts : List BoundTree) → AllByRecursion R (flat_map own_sources ts) → Within R ts
each_finds R [] h = tt
each_finds R (t ∷ ts) h =
    let parts = both_parts R (own_sources t) (flat_map own_sources ts) h in
    (parts.0, each_finds R ts parts.1)

first_alike : (t : BoundTree) (env other : Environment) → FindsTheSame t env other → Alike (SameIn env other) env other
first_alike t env other h = record {
  tuples = record { width = h.width; values = λ n r. r };
  outer = λ n r. r;
  declared = λ r. r;
  context = λ r. r;
}

pub finds_sources : EvalFindsSources
finds_sources program depth t env other h =
    eval-looks (SameIn env other) program depth t
    (each_finds (SameIn env other) (subtrees t) (recursion_from_All (SameIn env other) (sources t) h.found))
    env other (first_alike t env other h)
