-- The expressions of a compiled query are bound over its frames.
use Rattle.std.proofs.Common.{◌≡◌, ℕ, zero, suc, ◌+◌, true, ◌&&◌, Some, List, [], ◌∷◌, ◌++◌, ap, subst, ◌∙◌, arith}
use Rattle.std.specs.Prelude.{nat_lt, slice_get}
use Rattle.std.specs.List.{list_all}
use Rattle.std.proofs.lemmas.Bool.{and_parts}
use Rattle.std.proofs.lemmas.Option.{none-some, same_Some}
use Rattle.seq_types.specs.declared.types.SeqType.{SeqType}
use Rattle.query_tree.specs.declared.bound.Slot.{Slot}
use Rattle.query_tree.specs.declared.bound.Target.{Target}
use Rattle.query_tree.specs.Modules.{PlainVariable, PlainFunction}
use Rattle.query_tree.specs.Scopes.{these, below, Scope}
use Rattle.query_tree.specs.Bound.{is_bound}
use Rattle.query_tree.specs.Binders.{params_binders, binders}
use Rattle.query_tree.specs.Bindings.{numbers_of, bindings}
use Rattle.query_tree.specs.Compiled.{BoundTrees, is_own, variable_scope, body_scope, after_params, params_bound, variables_bound, functions_bound, module_bound, all_differ, are_apart, params_bindings, module_apart, is_compiled, IsFramed}
use Rattle.query_tree.proofs.Frames.{Fits, small_none, fit_parts, InFrame, framed, after_params-fits, params-framed, framed-after_params}
use Rattle.query_tree.proofs.SlotNumbers.{numbers-append}
use Rattle.query_tree.proofs.Framed.{tree-framed}

fits_of : (width : ℕ) (vs : List Slot) → are_apart width (numbers_of vs) ≡ true → Fits width vs
fits_of width vs h = record { all = (and_parts (list_all (λ n. nat_lt n width) (numbers_of vs)) (all_differ (numbers_of vs)) h).0 }

variable_at : (width number place : ℕ) (xs : List (PlainVariable Slot Target SeqType)) → variables_bound (these []) number xs ≡ true → list_all (λ x. are_apart width (bindings x.value)) xs ≡ true → (i : ℕ) (x : PlainVariable Slot Target SeqType) → place ≡ number + i → slice_get xs i ≡ Some x → is_bound (variable_scope (below width) place) x.value ≡ true
variable_at width number place [] h a i x e g = absurd (none-some _ g)
variable_at width number place (y ∷ ys) h a zero x e g =
    let here = and_parts _ _ (and_parts _ (variables_bound (these []) (number + 1) ys) h).0 in
    let own = fits_of width (binders y.value) (and_parts _ _ a).0 in
    let known = tree-framed width (variable_scope (these []) number) (small_none width) y.value here.1 own in
    let at : number ≡ place = omega (arith, e) in
    subst (λ z. is_bound (variable_scope (below width) place) z.value ≡ true) (same_Some _ _ g) (subst (λ n. is_bound (variable_scope (below width) n) y.value ≡ true) at known)
variable_at width number place (y ∷ ys) h a (suc i) x e g =
    variable_at width (number + 1) place ys (and_parts _ _ h).1 (and_parts _ _ a).1 i x (omega (arith, e)) g

record FunctionFits (width : ℕ) (s : Scope) (f : PlainFunction Slot Target SeqType) : Type 0 where
  params : params_bound (framed width s) f.params ≡ true
  body : is_bound (framed width s) f.body ≡ true

function_at : (width number : ℕ) (s : Scope) → InFrame width s.locals → (fs : List (PlainFunction Slot Target SeqType)) → functions_bound s number fs ≡ true → list_all (λ f. are_apart width (params_bindings f.params ++ bindings f.body)) fs ≡ true → (i : ℕ) (f : PlainFunction Slot Target SeqType) → slice_get fs i ≡ Some f → FunctionFits width s f
function_at width number s fits [] h a i f g = absurd (none-some _ g)
function_at width number s fits (q ∷ fs) h a zero f g =
    let first = (and_parts _ (functions_bound s (number + 1) fs) h).0 in
    let tests = and_parts (is_own number q.function.name && params_bound s q.params) (is_bound (after_params s q.params) q.body) first in
    let together = ap (are_apart width) (numbers-append (params_binders q.params) (binders q.body)) ∙ (and_parts _ _ a).0 in
    let own = fit_parts width (params_binders q.params) (binders q.body) (fits_of width (params_binders q.params ++ binders q.body) together) in
    let known = tree-framed width (after_params s q.params) (after_params-fits width s q.params fits own.0) q.body tests.1 own.1 in
    let fact : FunctionFits width s q = record {
      params = params-framed width s fits q.params (and_parts (is_own number q.function.name) (params_bound s q.params) tests.0).1 own.0;
      body = subst (λ t. is_bound t q.body ≡ true) (framed-after_params width s q.params) known;
    } in
    subst (FunctionFits width s) (same_Some _ _ g) fact
function_at width number s fits (q ∷ fs) h a (suc i) f g =
    function_at width (number + 1) s fits fs (and_parts _ _ h).1 (and_parts _ _ a).1 i f g

pub compiled-framed : (width : ℕ) (m : BoundTrees) → is_compiled width m ≡ true → IsFramed width m
compiled-framed width m h =
    let s = body_scope (these []) m in
    let both = and_parts (module_bound (these []) m) (module_apart width m) h in
    let bound = and_parts _ (is_bound s m.body) both.0 in
    let declared = and_parts (variables_bound (these []) 0 m.variables) (functions_bound s 0 m.functions) bound.0 in
    let apart = and_parts _ (are_apart width (bindings m.body)) both.1 in
    let own = and_parts (list_all (λ x. are_apart width (bindings x.value)) m.variables) (list_all (λ f. are_apart width (params_bindings f.params ++ bindings f.body)) m.functions) apart.0 in
    record {
      variables = λ i x g. variable_at width 0 i m.variables declared.0 own.0 i x (omega arith) g;
      params = λ i f g. (function_at width 0 s (small_none width) m.functions declared.1 own.1 i f g).params;
      functions = λ i f g. (function_at width 0 s (small_none width) m.functions declared.1 own.1 i f g).body;
      body = tree-framed width s (small_none width) m.body bound.1 (fits_of width (binders m.body) apart.1);
      apart = both.1;
    }
