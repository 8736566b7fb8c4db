-- Written by tools/plain_trees.py from the types of src/. Change those, and run it again.
-- Compiled trees as plain values; that of a whole query stands in Compiled.antt.
use Rattle.std.specs.Prelude.{List, map, Option}
use Rattle.std.specs.declared.alloc.Global.{Global}
use Rattle.std.specs.declared.boxed.Box.{Box}
use Rattle.query_tree.specs.declared.bound.Slot.{Slot}
use Rattle.query_tree.specs.declared.bound.Target.{Target}
use Rattle.seq_types.specs.declared.types.SeqType.{SeqType}
use Rattle.query_tree.specs.Bound.{BoundTree}
use Rattle.query_tree.specs.declared.clause.Clause.{Clause}
use Rattle.query_tree.specs.declared.expr.Kind.{Kind}
use Rattle.query_tree.specs.declared.expr.Expr.{Expr}
use Rattle.query_tree.specs.declared.clause.GroupVar.{GroupVar}
use Rattle.query_tree.specs.declared.clause.OrderKey.{OrderKey}
use Rattle.query_tree.specs.declared.part.Operand.{Operand}
use Rattle.query_tree.specs.declared.part.Term.{Term}
use Rattle.query_tree.specs.declared.part.Factor.{Factor}
use Rattle.query_tree.specs.declared.part.Bind.{Bind}
use Rattle.query_tree.specs.declared.part.Case.{Case}
use Rattle.query_tree.specs.declared.part.TypeCase.{TypeCase}
use Rattle.query_tree.specs.declared.part.Catch.{Catch}
use Rattle.query_tree.specs.declared.part.Pair.{Pair}
use Rattle.query_tree.specs.declared.step.Lookup.{Lookup}
use Rattle.query_tree.specs.declared.step.Step.{Step}
use Rattle.query_tree.specs.declared.module.Variable.{Variable}
use Rattle.query_tree.specs.declared.module.Function.{Function}
use Rattle.query_tree.specs.Plain as p
use Rattle.query_tree.specs.Plain.{PlainClause, Form, PlainGroupVar, PlainOrderKey, PlainOperand, PlainTerm, PlainFactor, PlainBind, PlainCase, PlainTypeCase, PlainCatch, PlainPair, PlainLookup, PlainStep, PlainClauses, Trees, PlainGroupVars, PlainOrderKeys, PlainOperands, PlainTerms, PlainFactors, PlainBinds, PlainCases, PlainTypeCases, PlainCatches, PlainPairs, PlainSteps, MaybeTree}
use Rattle.query_tree.specs.Modules as modules
use Rattle.query_tree.specs.Modules.{PlainVariable, PlainFunction}

abbrev pub bound_tree : Expr Slot Target SeqType → BoundTree
bound_tree = p.tree_of Slot Target SeqType

abbrev pub bound_tree_list : List (Expr Slot Target SeqType) → Trees Slot Target SeqType
bound_tree_list xs = p.trees_of Slot Target SeqType (map (p.tree_of Slot Target SeqType) xs)

abbrev pub bound_clause : Clause Slot Target SeqType → PlainClause Slot Target SeqType
bound_clause = p.clause_of Slot Target SeqType

abbrev pub bound_clauses : List (Clause Slot Target SeqType) → PlainClauses Slot Target SeqType
bound_clauses xs = p.clauses_of Slot Target SeqType (map (p.clause_of Slot Target SeqType) xs)

abbrev pub bound_form : Kind Slot Target SeqType → Form Slot Target SeqType
bound_form = p.form_of Slot Target SeqType

abbrev pub bound_group_var : GroupVar Slot (Expr Slot Target SeqType)
    → PlainGroupVar Slot Target SeqType
bound_group_var = p.group_var_of Slot Target SeqType

abbrev pub bound_group_vars : List (GroupVar Slot (Expr Slot Target SeqType))
    → PlainGroupVars Slot Target SeqType
bound_group_vars xs =
    p.group_vars_of Slot Target SeqType (map (p.group_var_of Slot Target SeqType) xs)

abbrev pub bound_order_key : OrderKey (Expr Slot Target SeqType) → PlainOrderKey Slot Target SeqType
bound_order_key = p.order_key_of Slot Target SeqType

abbrev pub bound_order_keys : List (OrderKey (Expr Slot Target SeqType))
    → PlainOrderKeys Slot Target SeqType
bound_order_keys xs =
    p.order_keys_of Slot Target SeqType (map (p.order_key_of Slot Target SeqType) xs)

abbrev pub bound_operand : Operand (Expr Slot Target SeqType) → PlainOperand Slot Target SeqType
bound_operand = p.operand_of Slot Target SeqType

abbrev pub bound_operands : List (Operand (Expr Slot Target SeqType))
    → PlainOperands Slot Target SeqType
bound_operands xs = p.operands_of Slot Target SeqType (map (p.operand_of Slot Target SeqType) xs)

abbrev pub bound_term : Term (Expr Slot Target SeqType) → PlainTerm Slot Target SeqType
bound_term = p.term_of Slot Target SeqType

abbrev pub bound_terms : List (Term (Expr Slot Target SeqType)) → PlainTerms Slot Target SeqType
bound_terms xs = p.terms_of Slot Target SeqType (map (p.term_of Slot Target SeqType) xs)

abbrev pub bound_factor : Factor (Expr Slot Target SeqType) → PlainFactor Slot Target SeqType
bound_factor = p.factor_of Slot Target SeqType

abbrev pub bound_factors : List (Factor (Expr Slot Target SeqType))
    → PlainFactors Slot Target SeqType
bound_factors xs = p.factors_of Slot Target SeqType (map (p.factor_of Slot Target SeqType) xs)

abbrev pub bound_bind : Bind Slot SeqType (Expr Slot Target SeqType) → PlainBind Slot Target SeqType
bound_bind = p.bind_of Slot Target SeqType

abbrev pub bound_binds : List (Bind Slot SeqType (Expr Slot Target SeqType))
    → PlainBinds Slot Target SeqType
bound_binds xs = p.binds_of Slot Target SeqType (map (p.bind_of Slot Target SeqType) xs)

abbrev pub bound_case : Case (Expr Slot Target SeqType) → PlainCase Slot Target SeqType
bound_case = p.case_of Slot Target SeqType

abbrev pub bound_cases : List (Case (Expr Slot Target SeqType)) → PlainCases Slot Target SeqType
bound_cases xs = p.cases_of Slot Target SeqType (map (p.case_of Slot Target SeqType) xs)

abbrev pub bound_type_case : TypeCase Slot SeqType (Expr Slot Target SeqType)
    → PlainTypeCase Slot Target SeqType
bound_type_case = p.type_case_of Slot Target SeqType

abbrev pub bound_type_cases : List (TypeCase Slot SeqType (Expr Slot Target SeqType))
    → PlainTypeCases Slot Target SeqType
bound_type_cases xs =
    p.type_cases_of Slot Target SeqType (map (p.type_case_of Slot Target SeqType) xs)

abbrev pub bound_catch : Catch Slot (Expr Slot Target SeqType) → PlainCatch Slot Target SeqType
bound_catch = p.catch_of Slot Target SeqType

abbrev pub bound_catches : List (Catch Slot (Expr Slot Target SeqType))
    → PlainCatches Slot Target SeqType
bound_catches xs = p.catches_of Slot Target SeqType (map (p.catch_of Slot Target SeqType) xs)

abbrev pub bound_pair : Pair (Expr Slot Target SeqType) → PlainPair Slot Target SeqType
bound_pair = p.pair_of Slot Target SeqType

abbrev pub bound_pairs : List (Pair (Expr Slot Target SeqType)) → PlainPairs Slot Target SeqType
bound_pairs xs = p.pairs_of Slot Target SeqType (map (p.pair_of Slot Target SeqType) xs)

abbrev pub bound_lookup : Lookup Slot (Expr Slot Target SeqType) → PlainLookup Slot Target SeqType
bound_lookup = p.lookup_of Slot Target SeqType

abbrev pub bound_step : Step Slot (Expr Slot Target SeqType) → PlainStep Slot Target SeqType
bound_step = p.step_of Slot Target SeqType

abbrev pub bound_steps : List (Step Slot (Expr Slot Target SeqType))
    → PlainSteps Slot Target SeqType
bound_steps xs = p.steps_of Slot Target SeqType (map (p.step_of Slot Target SeqType) xs)

abbrev pub bound_content : Option (Box (Expr Slot Target SeqType) Global)
    → MaybeTree Slot Target SeqType
bound_content = p.maybe_tree_of Slot Target SeqType

abbrev pub bound_variable : Variable Slot Target SeqType → PlainVariable Slot Target SeqType
bound_variable = modules.variable_of Slot Target SeqType

abbrev pub bound_function : Function Slot Target SeqType → PlainFunction Slot Target SeqType
bound_function = modules.function_of Slot Target SeqType
