-- What compiling keeps of each expression it keeps of those of all declarations.
use Rattle.std.proofs.Common.{◌≡◌, ℕ, ◌+◌, List, [], ◌∷◌, length, map, refl, ap, ◌∙◌}
use Rattle.query_tree.specs.declared.bound.Slot.{Slot}
use Rattle.query_tree.specs.declared.bound.Slot.TheVariants.{Global}
use Rattle.query_tree.specs.declared.names.TypeName.{TypeName}
use Rattle.query_tree.specs.Bound.{BoundTree}
use Rattle.query_tree.specs.Modules.{PlainVariable, PlainFunction}
use Rattle.query_tree.specs.NamedViews.{NamedTree}
use Rattle.static_rules.specs.Compiling.{Names, with_params, compiled, compiled_variables, compiled_functions}

module _ {A : Type 0} (of_bound : BoundTree → A) (of_read : NamedTree → A) (kept : (s : Names) (n : ℕ) (x : NamedTree) → of_bound (compiled s n x) ≡ of_read x) where
  pub variables-kept : (names : List (List ℕ × Slot)) (number : ℕ) (xs : List (PlainVariable (List ℕ) (List ℕ) TypeName)) → map (λ x. of_bound x.value) (compiled_variables names number xs) ≡ map (λ x. of_read x.value) xs
  variables-kept names number [] = refl
  variables-kept names number (x ∷ xs) =
      let more = (x.variable.name, Global number) ∷ names in
      ap (λ k. k ∷ map (λ y. of_bound y.value) (compiled_variables more (number + 1) xs)) (kept (record { variables = names; functions = [] }) 0 x.value)
      ∙ ap (λ ks. of_read x.value ∷ ks) (variables-kept more (number + 1) xs)

  pub functions-kept : (s : Names) (number : ℕ) (fs : List (PlainFunction (List ℕ) (List ℕ) TypeName)) → map (λ f. of_bound f.body) (compiled_functions s number fs) ≡ map (λ f. of_read f.body) fs
  functions-kept s number [] = refl
  functions-kept s number (f ∷ fs) =
      ap (λ k. k ∷ map (λ g. of_bound g.body) (compiled_functions s (number + 1) fs)) (kept (with_params s 0 f.params) (length f.params) f.body)
      ∙ ap (λ ks. of_read f.body ∷ ks) (functions-kept s (number + 1) fs)
