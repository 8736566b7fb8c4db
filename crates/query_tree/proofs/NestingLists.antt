-- The nesting of a list of parts is the greatest that its elements have. For other crates too.
use Rattle.std.proofs.Common.{◌≡◌, ℕ, max, List, [], ◌∷◌, ◌++◌, refl, ap, arith}
use Rattle.query_tree.specs.Plain as p
use Rattle.query_tree.specs.Nesting as n
use Rattle.query_tree.specs.Nesting.{greatest}

pub greatest-append : {A : Type 0} (depth : A → ℕ) (xs ys : List A)
    → greatest depth (xs ++ ys) ≡ max (greatest depth xs) (greatest depth ys)
greatest-append depth [] ys = omega arith
greatest-append depth (x ∷ xs) ys = omega (arith, greatest-append depth xs ys)

module _ {V F T : Type 0} where
  pub clauses-nesting : (xs : List (p.PlainClause V F T))
      → n.clauses_nesting (p.clauses_of V F T xs) ≡ greatest n.clause_nesting xs
  clauses-nesting [] = refl
  clauses-nesting (x ∷ xs) = ap (max (n.clause_nesting x)) (clauses-nesting xs)

  pub trees-nesting : (xs : List (p.Tree V F T))
      → n.trees_nesting (p.trees_of V F T xs) ≡ greatest n.nesting xs
  trees-nesting [] = refl
  trees-nesting (x ∷ xs) = ap (max (n.nesting x)) (trees-nesting xs)

  pub group_vars-nesting : (xs : List (p.PlainGroupVar V F T))
      → n.group_vars_nesting (p.group_vars_of V F T xs) ≡ greatest n.group_var_nesting xs
  group_vars-nesting [] = refl
  group_vars-nesting (x ∷ xs) = ap (max (n.group_var_nesting x)) (group_vars-nesting xs)

  pub order_keys-nesting : (xs : List (p.PlainOrderKey V F T))
      → n.order_keys_nesting (p.order_keys_of V F T xs) ≡ greatest n.order_key_nesting xs
  order_keys-nesting [] = refl
  order_keys-nesting (x ∷ xs) = ap (max (n.order_key_nesting x)) (order_keys-nesting xs)

  pub operands-nesting : (xs : List (p.PlainOperand V F T))
      → n.operands_nesting (p.operands_of V F T xs) ≡ greatest n.operand_nesting xs
  operands-nesting [] = refl
  operands-nesting (x ∷ xs) = ap (max (n.operand_nesting x)) (operands-nesting xs)

  pub terms-nesting : (xs : List (p.PlainTerm V F T))
      → n.terms_nesting (p.terms_of V F T xs) ≡ greatest n.term_nesting xs
  terms-nesting [] = refl
  terms-nesting (x ∷ xs) = ap (max (n.term_nesting x)) (terms-nesting xs)

  pub factors-nesting : (xs : List (p.PlainFactor V F T))
      → n.factors_nesting (p.factors_of V F T xs) ≡ greatest n.factor_nesting xs
  factors-nesting [] = refl
  factors-nesting (x ∷ xs) = ap (max (n.factor_nesting x)) (factors-nesting xs)

  pub binds-nesting : (xs : List (p.PlainBind V F T))
      → n.binds_nesting (p.binds_of V F T xs) ≡ greatest n.bind_nesting xs
  binds-nesting [] = refl
  binds-nesting (x ∷ xs) = ap (max (n.bind_nesting x)) (binds-nesting xs)

  pub cases-nesting : (xs : List (p.PlainCase V F T))
      → n.cases_nesting (p.cases_of V F T xs) ≡ greatest n.case_nesting xs
  cases-nesting [] = refl
  cases-nesting (x ∷ xs) = ap (max (n.case_nesting x)) (cases-nesting xs)

  pub type_cases-nesting : (xs : List (p.PlainTypeCase V F T))
      → n.type_cases_nesting (p.type_cases_of V F T xs) ≡ greatest n.type_case_nesting xs
  type_cases-nesting [] = refl
  type_cases-nesting (x ∷ xs) = ap (max (n.type_case_nesting x)) (type_cases-nesting xs)

  pub catches-nesting : (xs : List (p.PlainCatch V F T))
      → n.catches_nesting (p.catches_of V F T xs) ≡ greatest n.catch_nesting xs
  catches-nesting [] = refl
  catches-nesting (x ∷ xs) = ap (max (n.catch_nesting x)) (catches-nesting xs)

  pub pairs-nesting : (xs : List (p.PlainPair V F T))
      → n.pairs_nesting (p.pairs_of V F T xs) ≡ greatest n.pair_nesting xs
  pairs-nesting [] = refl
  pairs-nesting (x ∷ xs) = ap (max (n.pair_nesting x)) (pairs-nesting xs)

  pub steps-nesting : (xs : List (p.PlainStep V F T))
      → n.steps_nesting (p.steps_of V F T xs) ≡ greatest n.step_nesting xs
  steps-nesting [] = refl
  steps-nesting (x ∷ xs) = ap (max (n.step_nesting x)) (steps-nesting xs)
