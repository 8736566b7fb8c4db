-- An expression that is bound in a scope needs nothing but what may be used there. For other crates
-- too.
use Rattle.std.proofs.Common.{◌≡◌, ℕ, zero, suc, ◌+◌, ◌&&◌, true, List, [], ◌∷◌, ◌++◌, length, map, slice_get, Option, Some, None, Ok, refl, sym, ap, ◌∙◌, subst, arith}
use Rattle.std.specs.Prelude.{nat_lt}
use Rattle.std.proofs.lemmas.Bool.{and_parts, false≢true}
use Rattle.std.proofs.lemmas.Option.{none-some, same_Some}
use Rattle.item_tree.specs.Datum.{Datum}
use Rattle.seq_types.specs.declared.types.ItemType.{ItemType}
use Rattle.seq_types.specs.declared.types.ItemType.TheVariants as item
use Rattle.seq_types.specs.declared.types.SeqType.{SeqType}
use Rattle.seq_types.specs.declared.types.SeqType.TheVariants.{Empty, Of}
use Rattle.atom_ops.specs.Casts.{is_cast_to}
use Rattle.query_tree.specs.declared.bound.Slot.{Slot}
use Rattle.query_tree.specs.declared.bound.Target.{Target}
use Rattle.query_tree.specs.declared.bound.Target.TheVariants.{Built, Own, Lines}
use Rattle.query_tree.specs.declared.module.Param.{Param}
use Rattle.query_tree.specs.Bound.{how_many, after_clauses, after_binds, is_bound, form_bound, clauses_bound, trees_bound, binds_bound}
use Rattle.query_tree.specs.Compiled.{BoundTrees, is_global, is_own, variable_scope, body_scope, after_params, params_bound, variables_bound, functions_bound, module_bound, module_apart, is_compiled}
use Rattle.query_tree.specs.Modules.{PlainVariable, PlainFunction}
use Rattle.query_tree.specs.Plain as p
use Rattle.query_tree.specs.Plain.{Form}
use Rattle.query_tree.specs.Scopes.{these, Scope, may_call, is_count, with_slot, is_cast_type, is_atomic_name, is_at_most_one}
use Rattle.query_meaning.specs.Outcome.{◌>>=◌}
use Rattle.query_meaning.specs.Environment.{Environment, Inner, value_in, item_or_fault}
use Rattle.query_meaning.specs.Checks.{typed}
use Rattle.query_meaning.specs.Library.{Library, lines_value}
use Rattle.query_meaning.specs.Calls.{Program, new_frame, with_arguments, own_value, declared_value}
use Rattle.query_meaning.specs.Meaning.{meaning, eval}
use Rattle.query_meaning.specs.Operators.{cast_as}
use Rattle.query_meaning.specs.Queries.{whole_depth, outermost, global_value, globals_from, program_of, query_value}
use Rattle.meaning_laws.specs.Accepted.{called_from, IsCallable, SameCallable, BoundNeedsItsScope, with_functions, CastsAreCasts, AcceptedMeetsNoFiller}
use Rattle.meaning_laws.proofs.Alike.{then_same}
use Rattle.meaning_laws.proofs.AlikeParts.{SameBehind}
use Rattle.meaning_laws.proofs.Sight.{Sees, Looks, value-seen}
use Rattle.meaning_laws.proofs.SightParts.{content-same, comma-same, map-same, concat-same, or-same, and-same, not-same, compare-same, range-same, sum-same, product-same, sign-same, instance-same, treat-same, cast-same, castable-same, postfix-same, array-same, merge-same, object-same, if-same, switch-same, typeswitch-same, try-same, call-same, quantified-same}
use Rattle.meaning_laws.proofs.SightClauses.{flwor-same}

-- ---- the scope of the body of a function

params_read : (s : Scope) (qs : List (Param Slot SeqType)) → (after_params s qs).globals ≡ s.globals
params_read s [] = refl
params_read s (q ∷ qs) = params_read (with_slot s q.variable.name) qs

params_call : (s : Scope) (qs : List (Param Slot SeqType)) → (after_params s qs).functions ≡ s.functions
params_call s [] = refl
params_call s (q ∷ qs) = params_call (with_slot s q.variable.name) qs

counted : (o : Option ℕ) (count : ℕ) → is_count o count ≡ true → (k : ℕ) × (o ≡ Some k)
counted None count h = absurd (false≢true h)
counted (Some k) count h = (k, refl)

-- ---- expressions

-- what may be called in the outer scope is the same
module _ (program program' : Program) (outer : Scope) (callable : SameCallable outer program program') where
  abbrev Seeing : Scope → Environment → Environment → Type 0
  Seeing s env other = Sees outer.globals outer.functions s env other

  module _ (inner inner' : Inner) (looks : Looks outer.globals outer.functions inner inner') where
    own-same : (n : ℕ) (c : IsCallable outer program program' n) (place : ℕ) (values : List (List Datum)) (s : Scope) (env other : Environment) → Seeing s env other → own_value program inner place c.function values env ≡ own_value program' inner' place c.function values other
    unfolding own_value
    own-same n c place values s env other sees =
        let f = c.function in
        let within = after_params (called_from outer) f.params in
        then_same
        (λ frame. inner f.body (record { frame = frame; globals = env.globals; item = None }) >>= typed place f.type)
        (λ frame. inner' f.body (record { frame = frame; globals = other.globals; item = None }) >>= typed place f.type)
        (with_arguments place f.params values (new_frame program)) (with_arguments place f.params values (new_frame program'))
        (ap (λ width. with_arguments place f.params values (new_frame (record program { width = width }))) callable.width)
        (λ frame. ap (λ r. r >>= typed place f.type)
        (looks within f.body c.body (record { frame = frame; globals = env.globals; item = None }) (record { frame = frame; globals = other.globals; item = None })
        (record {
          tuples = record { width = refl; values = λ m h. refl };
          outside = record {
            read = params_read (called_from outer) f.params;
            called = params_call (called_from outer) f.params;
            outer = sees.outside.outer;
            context = λ h. refl;
          };
        })))

    behind-same : (place : ℕ) (s : Scope) (env other : Environment) → Seeing s env other → (function : Target) (count : ℕ) → may_call s function count ≡ true → SameBehind program program' inner inner' place env other function
    behind-same place s env other sees (Built id) count h = tt
    behind-same place s env other sees (Own n) count h = λ values.
        let found = counted (slice_get s.functions n) count h in
        let c = callable.functions n found.0 (ap (λ fs. slice_get fs n) (sym sees.outside.called) ∙ found.1) in
        ap (λ o. declared_value program inner place o values env) c.here
        ∙ own-same n c place values s env other sees
        ∙ sym (ap (λ o. declared_value program' inner' place o values other) c.there)
    behind-same place s env other sees (Lines names) count h = ap (λ library. lines_value library names place) callable.library

    form-same : (s : Scope) (env other : Environment) → Seeing s env other → (place : ℕ) (form : Form Slot Target SeqType) → form_bound s form ≡ true → meaning program inner place form env ≡ meaning program' inner' place form other
    unfolding meaning
    form-same s env other sees place (p.int_form value) w = refl
    form-same s env other sees place (p.dec_form value) w = refl
    form-same s env other sees place (p.text_form value) w = refl
    form-same s env other sees place p.true_form w = refl
    form-same s env other sees place p.false_form w = refl
    form-same s env other sees place p.null_form w = refl
    form-same s env other sees place (p.var_form variable) w = ap Ok (value-seen outer.globals outer.functions s env other variable sees w)
    form-same s env other sees place p.context_form w = ap (item_or_fault place) (sees.outside.context w)
    form-same s env other sees place (p.paren_form content) w = content-same outer.globals outer.functions inner inner' looks s env other sees content w
    form-same s env other sees place (p.comma_form first rest) w = comma-same outer.globals outer.functions inner inner' looks s env other sees first rest w
    form-same s env other sees place (p.switch_form operand cases default) w = switch-same outer.globals outer.functions inner inner' looks s env other sees place operand cases default w
    form-same s env other sees place (p.typeswitch_form operand cases variable default) w = typeswitch-same outer.globals outer.functions inner inner' looks s env other sees operand cases variable default w
    form-same s env other sees place (p.if_form condition when_true when_false) w = if-same outer.globals outer.functions inner inner' looks s env other sees condition when_true when_false w
    form-same s env other sees place (p.try_form body catches) w = try-same outer.globals outer.functions inner inner' looks s env other sees body catches w
    form-same s env other sees place (p.or_form first rest) w = or-same outer.globals outer.functions inner inner' looks s env other sees first rest w
    form-same s env other sees place (p.and_form first rest) w = and-same outer.globals outer.functions inner inner' looks s env other sees first rest w
    form-same s env other sees place (p.not_form operand) w = not-same outer.globals outer.functions inner inner' looks s env other sees operand w
    form-same s env other sees place (p.compare_form left op at right) w = compare-same outer.globals outer.functions inner inner' looks s env other sees left op at right w
    form-same s env other sees place (p.concat_form first rest) w = concat-same outer.globals outer.functions inner inner' looks s env other sees first rest w
    form-same s env other sees place (p.range_form left at right) w = range-same outer.globals outer.functions inner inner' looks s env other sees left at right w
    form-same s env other sees place (p.sum_form first rest) w = sum-same outer.globals outer.functions inner inner' looks s env other sees first rest w
    form-same s env other sees place (p.product_form first rest) w = product-same outer.globals outer.functions inner inner' looks s env other sees first rest w
    form-same s env other sees place (p.instance_form operand at t) w = instance-same outer.globals outer.functions inner inner' looks s env other sees operand t w
    form-same s env other sees place (p.treat_form operand at t) w = treat-same outer.globals outer.functions inner inner' looks s env other sees operand at t w
    form-same s env other sees place (p.sign_form signs operand) w = sign-same outer.globals outer.functions inner inner' looks s env other sees place signs operand w
    form-same s env other sees place (p.map_form first rest) w = map-same outer.globals outer.functions inner inner' looks s env other sees first rest w
    form-same s env other sees place (p.postfix_form primary steps) w = postfix-same outer.globals outer.functions inner inner' looks s env other sees primary steps w
    form-same s env other sees place (p.object_form pairs) w = object-same outer.globals outer.functions inner inner' looks s env other sees place pairs w
    form-same s env other sees place (p.merge_form content) w = merge-same outer.globals outer.functions inner inner' looks s env other sees place content w
    form-same s env other sees place (p.array_form content) w = array-same outer.globals outer.functions inner inner' looks s env other sees place content w
    form-same s env other sees place (p.flwor_form clauses return_place result) w =
        let ws = and_parts (clauses_bound s clauses) (is_bound (after_clauses s clauses) result) w in
        flwor-same outer.globals outer.functions inner inner' looks s env other sees clauses result ws.0 ws.1
    form-same s env other sees place (p.quant_form quantifier binds test) w =
        let ws = and_parts (binds_bound s binds) (is_bound (after_binds s binds) test) w in
        quantified-same outer.globals outer.functions inner inner' looks quantifier test s binds ws.0 ws.1 env other sees
    form-same s env other sees place (p.castable_form operand at t) w =
        castable-same outer.globals outer.functions inner inner' looks s env other sees operand t (and_parts (is_bound s operand) (is_cast_type t.name) w).0
    form-same s env other sees place (p.cast_form operand at t) w =
        cast-same outer.globals outer.functions inner inner' looks s env other sees operand at t (and_parts (is_bound s operand) (is_cast_type t.name) w).0
    form-same s env other sees place (p.call_form function arguments) w =
        let ws = and_parts (may_call s function (how_many arguments)) (trees_bound s arguments) w in
        call-same outer.globals outer.functions inner inner' looks s env other sees program program' place function arguments (behind-same place s env other sees function (how_many arguments) ws.0) ws.1

  eval-sees : (depth : ℕ) → Looks outer.globals outer.functions (eval program depth) (eval program' depth)
  eval-sees zero s (p.tree_node place form) w env other sees = refl
  eval-sees (suc depth) s (p.tree_node place form) w env other sees =
      form-same (eval program depth) (eval program' depth) (eval-sees depth) s env other sees place form w

pub bound_needs : BoundNeedsItsScope
bound_needs program other depth s t env beside h callable same =
    eval-sees program other s callable depth s t h env beside
    (record {
      tuples = record { width = same.width; values = same.locals };
      outside = record { read = refl; called = refl; outer = same.globals; context = same.item };
    })

-- ---- compiled queries

further : {A : Type 0} (xs ys : List A) (n : ℕ) (x : A) → slice_get xs n ≡ Some x → slice_get (xs ++ ys) n ≡ Some x
further [] ys n x e = absurd (none-some _ e)
further (y ∷ xs) ys zero x e = e
further (y ∷ xs) ys (suc n) x e = further xs ys n x e

record FunctionAt (s : Scope) (fs : List (PlainFunction Slot Target SeqType)) (n : ℕ) : Type 0 where
  function : PlainFunction Slot Target SeqType
  found : slice_get fs n ≡ Some function
  body : is_bound (after_params s function.params) function.body ≡ true

function_at : (s : Scope) (number : ℕ) (fs : List (PlainFunction Slot Target SeqType)) → functions_bound s number fs ≡ true → (n count : ℕ) → slice_get (map (λ (f : PlainFunction Slot Target SeqType). length f.params) fs) n ≡ Some count → FunctionAt s fs n
function_at s number [] h n count e = absurd (none-some _ e)
function_at s number (f ∷ fs) h zero count e =
    let first = (and_parts (is_own number f.function.name && params_bound s f.params && is_bound (after_params s f.params) f.body) (functions_bound s (number + 1) fs) h).0 in
    record { function = f; found = refl; body = (and_parts (is_own number f.function.name && params_bound s f.params) (is_bound (after_params s f.params) f.body) first).1 }
function_at s number (f ∷ fs) h (suc n) count e =
    let rest = (and_parts (is_own number f.function.name && params_bound s f.params && is_bound (after_params s f.params) f.body) (functions_bound s (number + 1) fs) h).1 in
    let at = function_at s (number + 1) fs rest n count e in
    record { function = at.function; found = at.found; body = at.body }

value_at : (number at : ℕ) (xs : List (PlainVariable Slot Target SeqType)) → variables_bound (these []) number xs ≡ true → (i : ℕ) (x : PlainVariable Slot Target SeqType) → at ≡ number + i → slice_get xs i ≡ Some x → is_bound (variable_scope (these []) at) x.value ≡ true
value_at number at [] h i x e g = absurd (none-some _ g)
value_at number at (y ∷ ys) h zero x e g =
    let first = (and_parts (is_global number y.variable.name && is_bound (variable_scope (these []) number) y.value) (variables_bound (these []) (number + 1) ys) h).0 in
    let own = (and_parts (is_global number y.variable.name) (is_bound (variable_scope (these []) number) y.value) first).1 in
    let same : number ≡ at = omega (arith, e) in
    subst (λ z. is_bound (variable_scope (these []) at) z.value ≡ true) (same_Some _ _ g) (subst (λ n. is_bound (variable_scope (these []) n) y.value ≡ true) same own)
value_at number at (y ∷ ys) h (suc i) x e g =
    let rest = (and_parts (is_global number y.variable.name && is_bound (variable_scope (these []) number) y.value) (variables_bound (these []) (number + 1) ys) h).1 in
    value_at (number + 1) at ys rest i x (omega (arith, e)) g

-- a variable calls no function
no_calls : (at : ℕ) (program other : Program) → program.width ≡ other.width → program.library ≡ other.library → SameCallable (variable_scope (these []) at) program other
no_calls at program other w l = record { width = w; library = l; functions = λ n count e. absurd (none-some _ e) }

module _ (width : ℕ) (m : BoundTrees) (compiled : is_compiled width m ≡ true) where
  bound : module_bound (these []) m ≡ true
  bound = (and_parts (module_bound (these []) m) (module_apart width m) compiled).0

  declared : (variables_bound (these []) 0 m.variables && functions_bound (body_scope (these []) m) 0 m.functions) ≡ true
  declared = (and_parts (variables_bound (these []) 0 m.variables && functions_bound (body_scope (these []) m) 0 m.functions) (is_bound (body_scope (these []) m) m.body) bound).0

  body-bound : is_bound (body_scope (these []) m) m.body ≡ true
  body-bound = (and_parts (variables_bound (these []) 0 m.variables && functions_bound (body_scope (these []) m) 0 m.functions) (is_bound (body_scope (these []) m) m.body) bound).1

  values-bound : variables_bound (these []) 0 m.variables ≡ true
  values-bound = (and_parts (variables_bound (these []) 0 m.variables) (functions_bound (body_scope (these []) m) 0 m.functions) declared).0

  functions-bound : functions_bound (body_scope (these []) m) 0 m.functions ≡ true
  functions-bound = (and_parts (variables_bound (these []) 0 m.variables) (functions_bound (body_scope (these []) m) 0 m.functions) declared).1

  callable : (wide : ℕ) (library : Library) (more : List (PlainFunction Slot Target SeqType)) → SameCallable (body_scope (these []) m) (program_of wide m library) (program_of wide (with_functions more m) library)
  callable wide library more = record {
    width = refl;
    library = refl;
    functions = λ n count e.
        let at = function_at (body_scope (these []) m) 0 m.functions functions-bound n count e in
        record { function = at.function; here = at.found; there = further m.functions more n at.function at.found; body = at.body };
  }

  body-same : (wide depth : ℕ) (library : Library) (more : List (PlainFunction Slot Target SeqType)) (env other : Environment) → length env.frame ≡ length other.frame → ((n : ℕ) → nat_lt n (length m.variables) ≡ true → value_in env.globals n ≡ value_in other.globals n) → eval (program_of wide m library) depth m.body env ≡ eval (program_of wide (with_functions more m) library) depth m.body other
  body-same wide depth library more env other w g =
      bound_needs (program_of wide m library) (program_of wide (with_functions more m) library) depth (body_scope (these []) m) m.body env other body-bound (callable wide library more)
      (record { width = w; locals = λ n h. absurd (false≢true h); globals = g; item = λ h. absurd (false≢true h) })

  value-same : (program beside : Program) (depth i : ℕ) (x : PlainVariable Slot Target SeqType) (env other : Environment) → slice_get m.variables i ≡ Some x → program.width ≡ beside.width → program.library ≡ beside.library → length env.frame ≡ length other.frame → ((n : ℕ) → nat_lt n i ≡ true → value_in env.globals n ≡ value_in other.globals n) → eval program depth x.value env ≡ eval beside depth x.value other
  value-same program beside depth i x env other e w l f g =
      bound_needs program beside depth (variable_scope (these []) i) x.value env other (value_at 0 i m.variables values-bound i x (omega arith) e) (no_calls i program beside w l)
      (record { width = f; locals = λ n h. absurd (false≢true h); globals = g; item = λ h. absurd (false≢true h) })

  module _ (wide : ℕ) (library : Library) (more : List (PlainFunction Slot Target SeqType)) where
    abbrev one : Program
    one = program_of wide m library

    abbrev two : Program
    two = program_of wide (with_functions more m) library

    global-same : (number : ℕ) (x : PlainVariable Slot Target SeqType) (before : List (List Datum)) → is_bound (variable_scope (these []) number) x.value ≡ true → global_value one x before ≡ global_value two x before
    unfolding global_value
    global-same number x before h =
        ap (λ r. r >>= λ value. typed x.variable.place x.type value)
        (bound_needs one two whole_depth (variable_scope (these []) number) x.value (outermost one before) (outermost two before) h (no_calls number one two refl refl)
        (record { width = refl; locals = λ n h. absurd (false≢true h); globals = λ n h. refl; item = λ h. absurd (false≢true h) }))

    globals-same : (number : ℕ) (xs : List (PlainVariable Slot Target SeqType)) (before : List (List Datum)) → variables_bound (these []) number xs ≡ true → globals_from one xs before ≡ globals_from two xs before
    globals-same number [] before h = refl
    globals-same number (x ∷ xs) before h =
        let hs = and_parts (is_global number x.variable.name && is_bound (variable_scope (these []) number) x.value) (variables_bound (these []) (number + 1) xs) h in
        let own = (and_parts (is_global number x.variable.name) (is_bound (variable_scope (these []) number) x.value) hs.0).1 in
        then_same (λ value. globals_from one xs (before ++ value ∷ [])) (λ value. globals_from two xs (before ++ value ∷ [])) (global_value one x before) (global_value two x before) (global-same number x before own) (λ value. globals-same (number + 1) xs (before ++ value ∷ []) hs.1)

    query-more : query_value wide m library ≡ query_value wide (with_functions more m) library
    unfolding query_value
    query-more =
        then_same (λ globals. eval one whole_depth m.body (outermost one globals)) (λ globals. eval two whole_depth m.body (outermost two globals))
        (globals_from one m.variables []) (globals_from two m.variables []) (globals-same 0 m.variables [] values-bound)
        (λ globals. body-same wide whole_depth library more (outermost one globals) (outermost two globals) refl (λ n h. refl))

-- ---- casts

castable : (i : ItemType) → is_atomic_name i ≡ true → is_cast_to i ≡ true
castable item.Text h = refl
castable item.Integer h = refl
castable item.Decimal h = refl
castable item.Boolean h = refl
castable item.Null h = refl
castable item.Date h = refl
castable item.DateTime h = refl
castable _ h = absurd (false≢true h)

casts : CastsAreCasts
unfolding cast_as
casts Empty h = absurd (false≢true h)
casts (Of i times) h =
    let e = castable i (and_parts (is_atomic_name i) (is_at_most_one times) h).0 in
    (i, times, refl, e, λ value. rw e)

pub no_filler : AcceptedMeetsNoFiller
no_filler = record {
  expressions = bound_needs;
  queries = λ width m compiled. record {
    body = body-same width m compiled;
    variable = value-same width m compiled;
    query = query-more width m compiled;
  };
  casts = casts;
}
