-- The bindings of a compiled query have numbers in text order.
use Rattle.std.proofs.Common.{◌≡◌, ℕ, ◌+◌, List, [], ◌∷◌, ◌++◌, length, map, refl, ap, ◌∙◌, arith}
use Rattle.query_tree.specs.declared.bound.Slot.{Slot}
use Rattle.query_tree.specs.declared.bound.Slot.TheVariants.{Global}
use Rattle.query_tree.specs.declared.names.TypeName.{TypeName}
use Rattle.query_tree.specs.Binders.{binders}
use Rattle.query_tree.specs.Bindings.{bindings}
use Rattle.query_tree.specs.Compiled.{params_bindings}
use Rattle.query_tree.specs.Modules.{PlainVariable, PlainFunction}
use Rattle.static_rules.specs.Laws.{count_from, NumbersInTextOrder}
use Rattle.static_rules.specs.Compiling.{Names, with_params, body_names, compiled, compiled_variables, compiled_params, compiled_functions, variable_width, function_width}
use Rattle.static_rules.proofs.Numbers.{joined, params-counted, tree-counted}

pub variable-numbers : (names : List (List ℕ × Slot)) (x : PlainVariable (List ℕ) (List ℕ) TypeName) → bindings (compiled (record { variables = names; functions = [] }) 0 x.value) ≡ count_from 0 (variable_width x)
variable-numbers names x = (tree-counted (record { variables = names; functions = [] }) 0 x.value).all

pub function-numbers : (s : Names) (f : PlainFunction (List ℕ) (List ℕ) TypeName) → params_bindings (compiled_params 0 f.params) ++ bindings (compiled (with_params s 0 f.params) (length f.params) f.body) ≡ count_from 0 (function_width f)
function-numbers s f =
    let arity = length f.params in
    let count = length (binders f.body) in
    let body : bindings (compiled (with_params s 0 f.params) arity f.body) ≡ count_from (0 + arity) count = (tree-counted (with_params s 0 f.params) arity f.body).all ∙ ap (λ n. count_from n count) (omega arith) in
    joined 0 arity count (params-counted 0 f.params).all body

variables-numbers : (names : List (List ℕ × Slot)) (number : ℕ) (xs : List (PlainVariable (List ℕ) (List ℕ) TypeName)) → map (λ x. bindings x.value) (compiled_variables names number xs) ≡ map (λ x. count_from 0 (variable_width x)) xs
variables-numbers names number [] = refl
variables-numbers names number (x ∷ xs) =
    let more = (x.variable.name, Global number) ∷ names in
    ap (λ ns. ns ∷ map (λ y. bindings y.value) (compiled_variables more (number + 1) xs)) (variable-numbers names x)
    ∙ ap (λ nss. count_from 0 (variable_width x) ∷ nss) (variables-numbers more (number + 1) xs)

functions-numbers : (s : Names) (number : ℕ) (fs : List (PlainFunction (List ℕ) (List ℕ) TypeName)) → map (λ f. params_bindings f.params ++ bindings f.body) (compiled_functions s number fs) ≡ map (λ f. count_from 0 (function_width f)) fs
functions-numbers s number [] = refl
functions-numbers s number (f ∷ fs) =
    ap (λ ns. ns ∷ map (λ g. params_bindings g.params ++ bindings g.body) (compiled_functions s (number + 1) fs)) (function-numbers s f)
    ∙ ap (λ nss. count_from 0 (function_width f) ∷ nss) (functions-numbers s (number + 1) fs)

pub text_order : NumbersInTextOrder
text_order = record {
  variables = λ q. variables-numbers [] 0 q.variables;
  functions = λ q. functions-numbers (body_names q) 0 q.functions;
  body = λ q. (tree-counted (body_names q) 0 q.body).all;
}
