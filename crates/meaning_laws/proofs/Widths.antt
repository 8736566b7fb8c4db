-- The width of frames makes no difference to a compiled query.
use Rattle.std.proofs.Common.{◌≡◌, ℕ, suc, ◌+◌, ◌<◌, ◌≤◌, true, List, [], ◌∷◌, length, slice_get, Some, refl, subst, arith}
use Rattle.std.specs.List.{AllByRecursion}
use Rattle.std.proofs.lemmas.Bool.{ltb-true}
use Rattle.std.proofs.lemmas.List.Elements.{All-from_recursion}
use Rattle.seq_types.specs.declared.types.SeqType.{SeqType}
use Rattle.query_tree.specs.declared.bound.Slot.{Slot}
use Rattle.query_tree.specs.declared.bound.Slot.TheVariants.{Local, Global}
use Rattle.query_tree.specs.declared.bound.Target.{Target}
use Rattle.query_tree.specs.Bound.{BoundTree, is_bound}
use Rattle.query_tree.specs.Compiled.{BoundTrees, IsFramed, variable_scope, body_scope}
use Rattle.query_tree.specs.Modules.{PlainVariable, PlainFunction}
use Rattle.query_tree.specs.Scopes.{Scope, below}
use Rattle.query_meaning.specs.Sources.{Source, of_variable, of_context, of_declared, sources}
use Rattle.meaning_laws.specs.Agreement.{FitsBoth, sources_in_bodies}
use Rattle.meaning_laws.specs.Widths.{WiderFramesMeanTheSame}
use Rattle.meaning_laws.proofs.Calling.{of_each, of_joined}
use Rattle.meaning_laws.proofs.Naming.{SlotsFit, query-same, variables-same}
use Rattle.meaning_laws.proofs.Slots.{Below, reads-below}

-- what lies below a width fits frames that are at least as wide
fits_wider : (width wide wider : ℕ) → width ≤ wide → width ≤ wider → (source : Source) → Below width source → FitsBoth wide wider source
fits_wider width wide wider a b (of_variable (Local n)) h =
    let l : n < width = ltb-true n width h in
    (λ k. omega (arith, l, b), λ k. omega (arith, l, a))
fits_wider width wide wider a b (of_variable (Global n)) h = tt
fits_wider width wide wider a b of_context h = tt
fits_wider width wide wider a b of_declared h = tt

module _ (width : ℕ) (m : BoundTrees) (framed : IsFramed width m) (wide wider : ℕ) (a : width ≤ wide) (b : width ≤ wider) where
  all_fit : (s : Scope) → s.locals ≡ below width → (t : BoundTree) → is_bound s t ≡ true → AllByRecursion (FitsBoth wide wider) (sources t)
  all_fit s e t h = of_each (Below width) (FitsBoth wide wider) (fits_wider width wide wider a b) (sources t) (reads-below width s e t h)

  values_fit : (start : ℕ) (xs : List (PlainVariable Slot Target SeqType))
      → ((i : ℕ) (x : PlainVariable Slot Target SeqType) → slice_get xs i ≡ Some x → is_bound (variable_scope (below width) (start + i)) x.value ≡ true)
      → AllByRecursion (λ x. AllByRecursion (FitsBoth wide wider) (sources x.value)) xs
  values_fit start [] h = tt
  values_fit start (x ∷ xs) h = (
    all_fit (variable_scope (below width) (start + 0)) refl x.value (h 0 x refl),
    values_fit (suc start) xs (λ i y e. subst (λ n. is_bound (variable_scope (below width) n) y.value ≡ true) (omega arith) (h (suc i) y e)),
  )

  bodies_fit : (fs : List (PlainFunction Slot Target SeqType))
      → ((i : ℕ) (f : PlainFunction Slot Target SeqType) → slice_get fs i ≡ Some f → is_bound (body_scope (below width) m) f.body ≡ true)
      → AllByRecursion (FitsBoth wide wider) (sources_in_bodies fs)
  bodies_fit [] h = tt
  bodies_fit (f ∷ fs) h =
      of_joined (FitsBoth wide wider) (sources f.body) (sources_in_bodies fs)
      (all_fit (body_scope (below width) m) refl f.body (h 0 f refl))
      (bodies_fit fs (λ i g e. h (suc i) g e))

  pub slots_fit : SlotsFit wide wider m
  slots_fit = record {
    variables = values_fit 0 m.variables (λ i x e. subst (λ n. is_bound (variable_scope (below width) n) x.value ≡ true) (omega arith) (framed.variables i x e));
    functions = bodies_fit m.functions framed.functions;
    body = all_fit (body_scope (below width) m) refl m.body framed.body;
  }

pub wider_same : WiderFramesMeanTheSame
wider_same = record {
  queries = λ width m framed. record {
    query = λ wide wider library other a b h. query-same wide wider m library other (slots_fit width m framed wide wider a b) h;
    variables = λ wide wider library other a b h. variables-same wide wider m library other (slots_fit width m framed wide wider a b) h;
    functions = λ wide wider library other a b h. record {
      functions = refl;
      slots = All-from_recursion (FitsBoth wide wider) (sources_in_bodies m.functions) (slots_fit width m framed wide wider a b).functions;
      inputs = h;
    };
  };
  reads = λ width s t env other e h a b found. record {
    slots = All-from_recursion (FitsBoth (length env.frame) (length other.frame)) (sources t)
        (of_each (Below width) (FitsBoth (length env.frame) (length other.frame)) (fits_wider width (length env.frame) (length other.frame) a b) (sources t) (reads-below width s e t h));
    found = found;
  };
}
