-- Written by tools/plain_trees.py from the types of src/. Change those, and run it again.
-- The lists of plain trees are lists. For other crates too.
use Rattle.std.proofs.Common.{◌≡◌, List, [], ◌∷◌, refl, ap}
use Rattle.query_tree.specs.Plain.{PlainClause, PlainClauses, no_clauses, more_clauses, clauses_of, listed_clauses, Tree, Trees, no_trees, more_trees, trees_of, listed_trees, PlainGroupVar, PlainGroupVars, no_group_vars, more_group_vars, group_vars_of, listed_group_vars, PlainOrderKey, PlainOrderKeys, no_order_keys, more_order_keys, order_keys_of, listed_order_keys, PlainOperand, PlainOperands, no_operands, more_operands, operands_of, listed_operands, PlainTerm, PlainTerms, no_terms, more_terms, terms_of, listed_terms, PlainFactor, PlainFactors, no_factors, more_factors, factors_of, listed_factors, PlainBind, PlainBinds, no_binds, more_binds, binds_of, listed_binds, PlainCase, PlainCases, no_cases, more_cases, cases_of, listed_cases, PlainTypeCase, PlainTypeCases, no_type_cases, more_type_cases, type_cases_of, listed_type_cases, PlainCatch, PlainCatches, no_catches, more_catches, catches_of, listed_catches, PlainPair, PlainPairs, no_pairs, more_pairs, pairs_of, listed_pairs, PlainStep, PlainSteps, no_steps, more_steps, steps_of, listed_steps}

module _ (V F T : Type 0) where
  pub listed_clauses-there : (xs : List (PlainClause V F T)) → listed_clauses V F T (clauses_of V F T xs) ≡ xs
  listed_clauses-there [] = refl
  listed_clauses-there (x ∷ xs) = ap (λ ys. x ∷ ys) (listed_clauses-there xs)

  pub listed_clauses-back : (xs : PlainClauses V F T) → clauses_of V F T (listed_clauses V F T xs) ≡ xs
  listed_clauses-back no_clauses = refl
  listed_clauses-back (more_clauses x xs) = ap (more_clauses x) (listed_clauses-back xs)

  pub listed_trees-there : (xs : List (Tree V F T)) → listed_trees V F T (trees_of V F T xs) ≡ xs
  listed_trees-there [] = refl
  listed_trees-there (x ∷ xs) = ap (λ ys. x ∷ ys) (listed_trees-there xs)

  pub listed_trees-back : (xs : Trees V F T) → trees_of V F T (listed_trees V F T xs) ≡ xs
  listed_trees-back no_trees = refl
  listed_trees-back (more_trees x xs) = ap (more_trees x) (listed_trees-back xs)

  pub listed_group_vars-there : (xs : List (PlainGroupVar V F T)) → listed_group_vars V F T (group_vars_of V F T xs) ≡ xs
  listed_group_vars-there [] = refl
  listed_group_vars-there (x ∷ xs) = ap (λ ys. x ∷ ys) (listed_group_vars-there xs)

  pub listed_group_vars-back : (xs : PlainGroupVars V F T) → group_vars_of V F T (listed_group_vars V F T xs) ≡ xs
  listed_group_vars-back no_group_vars = refl
  listed_group_vars-back (more_group_vars x xs) = ap (more_group_vars x) (listed_group_vars-back xs)

  pub listed_order_keys-there : (xs : List (PlainOrderKey V F T)) → listed_order_keys V F T (order_keys_of V F T xs) ≡ xs
  listed_order_keys-there [] = refl
  listed_order_keys-there (x ∷ xs) = ap (λ ys. x ∷ ys) (listed_order_keys-there xs)

  pub listed_order_keys-back : (xs : PlainOrderKeys V F T) → order_keys_of V F T (listed_order_keys V F T xs) ≡ xs
  listed_order_keys-back no_order_keys = refl
  listed_order_keys-back (more_order_keys x xs) = ap (more_order_keys x) (listed_order_keys-back xs)

  pub listed_operands-there : (xs : List (PlainOperand V F T)) → listed_operands V F T (operands_of V F T xs) ≡ xs
  listed_operands-there [] = refl
  listed_operands-there (x ∷ xs) = ap (λ ys. x ∷ ys) (listed_operands-there xs)

  pub listed_operands-back : (xs : PlainOperands V F T) → operands_of V F T (listed_operands V F T xs) ≡ xs
  listed_operands-back no_operands = refl
  listed_operands-back (more_operands x xs) = ap (more_operands x) (listed_operands-back xs)

  pub listed_terms-there : (xs : List (PlainTerm V F T)) → listed_terms V F T (terms_of V F T xs) ≡ xs
  listed_terms-there [] = refl
  listed_terms-there (x ∷ xs) = ap (λ ys. x ∷ ys) (listed_terms-there xs)

  pub listed_terms-back : (xs : PlainTerms V F T) → terms_of V F T (listed_terms V F T xs) ≡ xs
  listed_terms-back no_terms = refl
  listed_terms-back (more_terms x xs) = ap (more_terms x) (listed_terms-back xs)

  pub listed_factors-there : (xs : List (PlainFactor V F T)) → listed_factors V F T (factors_of V F T xs) ≡ xs
  listed_factors-there [] = refl
  listed_factors-there (x ∷ xs) = ap (λ ys. x ∷ ys) (listed_factors-there xs)

  pub listed_factors-back : (xs : PlainFactors V F T) → factors_of V F T (listed_factors V F T xs) ≡ xs
  listed_factors-back no_factors = refl
  listed_factors-back (more_factors x xs) = ap (more_factors x) (listed_factors-back xs)

  pub listed_binds-there : (xs : List (PlainBind V F T)) → listed_binds V F T (binds_of V F T xs) ≡ xs
  listed_binds-there [] = refl
  listed_binds-there (x ∷ xs) = ap (λ ys. x ∷ ys) (listed_binds-there xs)

  pub listed_binds-back : (xs : PlainBinds V F T) → binds_of V F T (listed_binds V F T xs) ≡ xs
  listed_binds-back no_binds = refl
  listed_binds-back (more_binds x xs) = ap (more_binds x) (listed_binds-back xs)

  pub listed_cases-there : (xs : List (PlainCase V F T)) → listed_cases V F T (cases_of V F T xs) ≡ xs
  listed_cases-there [] = refl
  listed_cases-there (x ∷ xs) = ap (λ ys. x ∷ ys) (listed_cases-there xs)

  pub listed_cases-back : (xs : PlainCases V F T) → cases_of V F T (listed_cases V F T xs) ≡ xs
  listed_cases-back no_cases = refl
  listed_cases-back (more_cases x xs) = ap (more_cases x) (listed_cases-back xs)

  pub listed_type_cases-there : (xs : List (PlainTypeCase V F T)) → listed_type_cases V F T (type_cases_of V F T xs) ≡ xs
  listed_type_cases-there [] = refl
  listed_type_cases-there (x ∷ xs) = ap (λ ys. x ∷ ys) (listed_type_cases-there xs)

  pub listed_type_cases-back : (xs : PlainTypeCases V F T) → type_cases_of V F T (listed_type_cases V F T xs) ≡ xs
  listed_type_cases-back no_type_cases = refl
  listed_type_cases-back (more_type_cases x xs) = ap (more_type_cases x) (listed_type_cases-back xs)

  pub listed_catches-there : (xs : List (PlainCatch V F T)) → listed_catches V F T (catches_of V F T xs) ≡ xs
  listed_catches-there [] = refl
  listed_catches-there (x ∷ xs) = ap (λ ys. x ∷ ys) (listed_catches-there xs)

  pub listed_catches-back : (xs : PlainCatches V F T) → catches_of V F T (listed_catches V F T xs) ≡ xs
  listed_catches-back no_catches = refl
  listed_catches-back (more_catches x xs) = ap (more_catches x) (listed_catches-back xs)

  pub listed_pairs-there : (xs : List (PlainPair V F T)) → listed_pairs V F T (pairs_of V F T xs) ≡ xs
  listed_pairs-there [] = refl
  listed_pairs-there (x ∷ xs) = ap (λ ys. x ∷ ys) (listed_pairs-there xs)

  pub listed_pairs-back : (xs : PlainPairs V F T) → pairs_of V F T (listed_pairs V F T xs) ≡ xs
  listed_pairs-back no_pairs = refl
  listed_pairs-back (more_pairs x xs) = ap (more_pairs x) (listed_pairs-back xs)

  pub listed_steps-there : (xs : List (PlainStep V F T)) → listed_steps V F T (steps_of V F T xs) ≡ xs
  listed_steps-there [] = refl
  listed_steps-there (x ∷ xs) = ap (λ ys. x ∷ ys) (listed_steps-there xs)

  pub listed_steps-back : (xs : PlainSteps V F T) → steps_of V F T (listed_steps V F T xs) ≡ xs
  listed_steps-back no_steps = refl
  listed_steps-back (more_steps x xs) = ap (more_steps x) (listed_steps-back xs)

pub ruleset lists = (listed_clauses-there, listed_clauses-back, listed_trees-there, listed_trees-back, listed_group_vars-there, listed_group_vars-back, listed_order_keys-there, listed_order_keys-back, listed_operands-there, listed_operands-back, listed_terms-there, listed_terms-back, listed_factors-there, listed_factors-back, listed_binds-there, listed_binds-back, listed_cases-there, listed_cases-back, listed_type_cases-there, listed_type_cases-back, listed_catches-there, listed_catches-back, listed_pairs-there, listed_pairs-back, listed_steps-there, listed_steps-back)
