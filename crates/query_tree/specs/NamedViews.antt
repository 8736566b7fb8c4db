-- Written by tools/plain_trees.py from the types of src/. Change those, and run it again.
-- Trees as they were read, as plain values.
use Rattle.std.specs.Prelude.{ℕ, List, map, Option}
use Rattle.std.specs.declared.alloc.Global.{Global}
use Rattle.std.specs.declared.boxed.Box.{Box}
use Rattle.query_tree.specs.declared.names.TypeName.{TypeName}
use Rattle.query_tree.specs.declared.clause.Clause.{Clause}
use Rattle.query_tree.specs.declared.expr.Kind.{Kind}
use Rattle.query_tree.specs.declared.expr.Expr.{Expr}
use Rattle.query_tree.specs.declared.clause.GroupVar.{GroupVar}
use Rattle.query_tree.specs.declared.clause.OrderKey.{OrderKey}
use Rattle.query_tree.specs.declared.part.Operand.{Operand}
use Rattle.query_tree.specs.declared.part.Term.{Term}
use Rattle.query_tree.specs.declared.part.Factor.{Factor}
use Rattle.query_tree.specs.declared.part.Bind.{Bind}
use Rattle.query_tree.specs.declared.part.Case.{Case}
use Rattle.query_tree.specs.declared.part.TypeCase.{TypeCase}
use Rattle.query_tree.specs.declared.part.Catch.{Catch}
use Rattle.query_tree.specs.declared.part.Pair.{Pair}
use Rattle.query_tree.specs.declared.step.Lookup.{Lookup}
use Rattle.query_tree.specs.declared.step.Step.{Step}
use Rattle.query_tree.specs.declared.module.Variable.{Variable}
use Rattle.query_tree.specs.declared.module.Function.{Function}
use Rattle.query_tree.specs.declared.module.Module.{Module}
use Rattle.query_tree.specs.Plain as p
use Rattle.query_tree.specs.Plain.{PlainClause, Form, Tree, PlainGroupVar, PlainOrderKey, PlainOperand, PlainTerm, PlainFactor, PlainBind, PlainCase, PlainTypeCase, PlainCatch, PlainPair, PlainLookup, PlainStep, PlainClauses, Trees, PlainGroupVars, PlainOrderKeys, PlainOperands, PlainTerms, PlainFactors, PlainBinds, PlainCases, PlainTypeCases, PlainCatches, PlainPairs, PlainSteps, MaybeTree}
use Rattle.query_tree.specs.Modules as modules
use Rattle.query_tree.specs.Modules.{PlainVariable, PlainFunction, PlainModule}

abbrev pub NamedTree : Type 0
NamedTree = Tree (List ℕ) (List ℕ) TypeName

abbrev pub NamedQuery : Type 0
NamedQuery = PlainModule (List ℕ) (List ℕ) TypeName

abbrev pub named_tree : Expr (List ℕ) (List ℕ) TypeName → NamedTree
named_tree = p.tree_of (List ℕ) (List ℕ) TypeName

abbrev pub named_tree_list : List (Expr (List ℕ) (List ℕ) TypeName)
    → Trees (List ℕ) (List ℕ) TypeName
named_tree_list xs =
    p.trees_of (List ℕ) (List ℕ) TypeName (map (p.tree_of (List ℕ) (List ℕ) TypeName) xs)

abbrev pub named_clause : Clause (List ℕ) (List ℕ) TypeName → PlainClause (List ℕ) (List ℕ) TypeName
named_clause = p.clause_of (List ℕ) (List ℕ) TypeName

abbrev pub named_clauses : List (Clause (List ℕ) (List ℕ) TypeName)
    → PlainClauses (List ℕ) (List ℕ) TypeName
named_clauses xs =
    p.clauses_of (List ℕ) (List ℕ) TypeName (map (p.clause_of (List ℕ) (List ℕ) TypeName) xs)

abbrev pub named_form : Kind (List ℕ) (List ℕ) TypeName → Form (List ℕ) (List ℕ) TypeName
named_form = p.form_of (List ℕ) (List ℕ) TypeName

abbrev pub named_group_var : GroupVar (List ℕ) (Expr (List ℕ) (List ℕ) TypeName)
    → PlainGroupVar (List ℕ) (List ℕ) TypeName
named_group_var = p.group_var_of (List ℕ) (List ℕ) TypeName

abbrev pub named_group_vars : List (GroupVar (List ℕ) (Expr (List ℕ) (List ℕ) TypeName))
    → PlainGroupVars (List ℕ) (List ℕ) TypeName
named_group_vars xs =
    p.group_vars_of (List ℕ) (List ℕ) TypeName (map (p.group_var_of (List ℕ) (List ℕ) TypeName) xs)

abbrev pub named_order_key : OrderKey (Expr (List ℕ) (List ℕ) TypeName)
    → PlainOrderKey (List ℕ) (List ℕ) TypeName
named_order_key = p.order_key_of (List ℕ) (List ℕ) TypeName

abbrev pub named_order_keys : List (OrderKey (Expr (List ℕ) (List ℕ) TypeName))
    → PlainOrderKeys (List ℕ) (List ℕ) TypeName
named_order_keys xs =
    p.order_keys_of (List ℕ) (List ℕ) TypeName (map (p.order_key_of (List ℕ) (List ℕ) TypeName) xs)

abbrev pub named_operand : Operand (Expr (List ℕ) (List ℕ) TypeName)
    → PlainOperand (List ℕ) (List ℕ) TypeName
named_operand = p.operand_of (List ℕ) (List ℕ) TypeName

abbrev pub named_operands : List (Operand (Expr (List ℕ) (List ℕ) TypeName))
    → PlainOperands (List ℕ) (List ℕ) TypeName
named_operands xs =
    p.operands_of (List ℕ) (List ℕ) TypeName (map (p.operand_of (List ℕ) (List ℕ) TypeName) xs)

abbrev pub named_term : Term (Expr (List ℕ) (List ℕ) TypeName)
    → PlainTerm (List ℕ) (List ℕ) TypeName
named_term = p.term_of (List ℕ) (List ℕ) TypeName

abbrev pub named_terms : List (Term (Expr (List ℕ) (List ℕ) TypeName))
    → PlainTerms (List ℕ) (List ℕ) TypeName
named_terms xs =
    p.terms_of (List ℕ) (List ℕ) TypeName (map (p.term_of (List ℕ) (List ℕ) TypeName) xs)

abbrev pub named_factor : Factor (Expr (List ℕ) (List ℕ) TypeName)
    → PlainFactor (List ℕ) (List ℕ) TypeName
named_factor = p.factor_of (List ℕ) (List ℕ) TypeName

abbrev pub named_factors : List (Factor (Expr (List ℕ) (List ℕ) TypeName))
    → PlainFactors (List ℕ) (List ℕ) TypeName
named_factors xs =
    p.factors_of (List ℕ) (List ℕ) TypeName (map (p.factor_of (List ℕ) (List ℕ) TypeName) xs)

abbrev pub named_bind : Bind (List ℕ) TypeName (Expr (List ℕ) (List ℕ) TypeName)
    → PlainBind (List ℕ) (List ℕ) TypeName
named_bind = p.bind_of (List ℕ) (List ℕ) TypeName

abbrev pub named_binds : List (Bind (List ℕ) TypeName (Expr (List ℕ) (List ℕ) TypeName))
    → PlainBinds (List ℕ) (List ℕ) TypeName
named_binds xs =
    p.binds_of (List ℕ) (List ℕ) TypeName (map (p.bind_of (List ℕ) (List ℕ) TypeName) xs)

abbrev pub named_case : Case (Expr (List ℕ) (List ℕ) TypeName)
    → PlainCase (List ℕ) (List ℕ) TypeName
named_case = p.case_of (List ℕ) (List ℕ) TypeName

abbrev pub named_cases : List (Case (Expr (List ℕ) (List ℕ) TypeName))
    → PlainCases (List ℕ) (List ℕ) TypeName
named_cases xs =
    p.cases_of (List ℕ) (List ℕ) TypeName (map (p.case_of (List ℕ) (List ℕ) TypeName) xs)

abbrev pub named_type_case : TypeCase (List ℕ) TypeName (Expr (List ℕ) (List ℕ) TypeName)
    → PlainTypeCase (List ℕ) (List ℕ) TypeName
named_type_case = p.type_case_of (List ℕ) (List ℕ) TypeName

abbrev pub named_type_cases : List (TypeCase (List ℕ) TypeName (Expr (List ℕ) (List ℕ) TypeName))
    → PlainTypeCases (List ℕ) (List ℕ) TypeName
named_type_cases xs =
    p.type_cases_of (List ℕ) (List ℕ) TypeName (map (p.type_case_of (List ℕ) (List ℕ) TypeName) xs)

abbrev pub named_catch : Catch (List ℕ) (Expr (List ℕ) (List ℕ) TypeName)
    → PlainCatch (List ℕ) (List ℕ) TypeName
named_catch = p.catch_of (List ℕ) (List ℕ) TypeName

abbrev pub named_catches : List (Catch (List ℕ) (Expr (List ℕ) (List ℕ) TypeName))
    → PlainCatches (List ℕ) (List ℕ) TypeName
named_catches xs =
    p.catches_of (List ℕ) (List ℕ) TypeName (map (p.catch_of (List ℕ) (List ℕ) TypeName) xs)

abbrev pub source_pair : Pair (Expr (List ℕ) (List ℕ) TypeName)
    → PlainPair (List ℕ) (List ℕ) TypeName
source_pair = p.pair_of (List ℕ) (List ℕ) TypeName

abbrev pub named_pairs : List (Pair (Expr (List ℕ) (List ℕ) TypeName))
    → PlainPairs (List ℕ) (List ℕ) TypeName
named_pairs xs =
    p.pairs_of (List ℕ) (List ℕ) TypeName (map (p.pair_of (List ℕ) (List ℕ) TypeName) xs)

abbrev pub named_lookup : Lookup (List ℕ) (Expr (List ℕ) (List ℕ) TypeName)
    → PlainLookup (List ℕ) (List ℕ) TypeName
named_lookup = p.lookup_of (List ℕ) (List ℕ) TypeName

abbrev pub named_step : Step (List ℕ) (Expr (List ℕ) (List ℕ) TypeName)
    → PlainStep (List ℕ) (List ℕ) TypeName
named_step = p.step_of (List ℕ) (List ℕ) TypeName

abbrev pub named_steps : List (Step (List ℕ) (Expr (List ℕ) (List ℕ) TypeName))
    → PlainSteps (List ℕ) (List ℕ) TypeName
named_steps xs =
    p.steps_of (List ℕ) (List ℕ) TypeName (map (p.step_of (List ℕ) (List ℕ) TypeName) xs)

abbrev pub named_content : Option (Box (Expr (List ℕ) (List ℕ) TypeName) Global)
    → MaybeTree (List ℕ) (List ℕ) TypeName
named_content = p.maybe_tree_of (List ℕ) (List ℕ) TypeName

abbrev pub named_variable : Variable (List ℕ) (List ℕ) TypeName
    → PlainVariable (List ℕ) (List ℕ) TypeName
named_variable = modules.variable_of (List ℕ) (List ℕ) TypeName

abbrev pub named_function : Function (List ℕ) (List ℕ) TypeName
    → PlainFunction (List ℕ) (List ℕ) TypeName
named_function = modules.function_of (List ℕ) (List ℕ) TypeName

abbrev pub named_query : Module (List ℕ) (List ℕ) TypeName → NamedQuery
named_query = modules.module_of (List ℕ) (List ℕ) TypeName
