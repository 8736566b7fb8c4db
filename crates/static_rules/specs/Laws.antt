-- Laws of compiling.
use Rattle.std.specs.Prelude.{◌≡◌, ℕ, zero, suc, ◌+◌, List, [], ◌∷◌, ◌++◌, length, map}
use Rattle.query_tree.specs.Binders.{binders}
use Rattle.query_tree.specs.Bindings.{bindings}
use Rattle.query_tree.specs.Compiled.{params_bindings}
use Rattle.query_tree.specs.Nesting.{nesting, variable_nesting, function_nesting}
use Rattle.query_tree.specs.Spines.{spine, commas_apart}
use Rattle.query_tree.specs.NamedViews.{NamedQuery}
use Rattle.static_rules.specs.Compiling.{compiled_query, variable_width, function_width}

-- each declaration of the compiled tree, and its body, is nested as that of the query is
pub record CompilingKeepsNesting : Type 0 where
  pub variables : (q : NamedQuery)
      → map variable_nesting (compiled_query q).variables ≡ map variable_nesting q.variables
  pub functions : (q : NamedQuery)
      → map function_nesting (compiled_query q).functions ≡ map function_nesting q.functions
  pub body : (q : NamedQuery) → nesting (compiled_query q).body ≡ nesting q.body

-- each of them has a spine as long as that of the query, and operands of commas on it that are
-- commas only where the query has them
pub record CompilingKeepsSpines : Type 0 where
  pub variables : (q : NamedQuery)
      → map (λ x. spine x.value) (compiled_query q).variables ≡ map (λ x. spine x.value) q.variables
  pub functions : (q : NamedQuery)
      → map (λ f. spine f.body) (compiled_query q).functions ≡ map (λ f. spine f.body) q.functions
  pub body : (q : NamedQuery) → spine (compiled_query q).body ≡ spine q.body
  pub variables_apart : (q : NamedQuery)
      → map (λ x. commas_apart x.value) (compiled_query q).variables
      ≡ map (λ x. commas_apart x.value) q.variables
  pub functions_apart : (q : NamedQuery)
      → map (λ f. commas_apart f.body) (compiled_query q).functions
      ≡ map (λ f. commas_apart f.body) q.functions
  pub body_apart : (q : NamedQuery) → commas_apart (compiled_query q).body ≡ commas_apart q.body

-- so many numbers from this one on
unfoldable pub count_from : ℕ → ℕ → List ℕ
count_from n zero = []
count_from n (suc k) = n ∷ count_from (n + 1) k

-- the bindings of each declaration of the compiled tree, and of its body, have the numbers 0, 1, 2
-- and so on in text order
pub record NumbersInTextOrder : Type 0 where
  pub variables : (q : NamedQuery)
      → map (λ x. bindings x.value) (compiled_query q).variables
      ≡ map (λ x. count_from 0 (variable_width x)) q.variables
  pub functions : (q : NamedQuery)
      → map (λ f. params_bindings f.params ++ bindings f.body) (compiled_query q).functions
      ≡ map (λ f. count_from 0 (function_width f)) q.functions
  pub body : (q : NamedQuery)
      → bindings (compiled_query q).body ≡ count_from 0 (length (binders q.body))
