-- Written by tools/plain_trees.py from the types of src/. Change those, and run it again.
-- Trees as plain values, without where they lie in memory.
use Rattle.std.specs.Prelude.{ℕ, ℤ, Bool, List, [], ◌∷◌, Option, Some, None, option_map, map}
use Rattle.std.specs.declared.alloc.Global.{Global}
use Rattle.std.specs.declared.boxed.Box.{Box}
use Rattle.query_tree.specs.declared.clause.Clause.{Clause, Clause-F, fold-Clause}
use Rattle.query_tree.specs.declared.expr.Kind.{Kind, Kind-F, fold-Kind}
use Rattle.query_tree.specs.declared.expr.Expr.{Expr, Expr-F, fold-Expr}
use Rattle.query_tree.specs.declared.clause.GroupVar.{GroupVar}
use Rattle.query_tree.specs.declared.clause.OrderKey.{OrderKey}
use Rattle.query_tree.specs.declared.part.Operand.{Operand}
use Rattle.query_tree.specs.declared.part.Term.{Term}
use Rattle.query_tree.specs.declared.part.Factor.{Factor}
use Rattle.query_tree.specs.declared.part.Bind.{Bind}
use Rattle.query_tree.specs.declared.part.Case.{Case}
use Rattle.query_tree.specs.declared.part.TypeCase.{TypeCase}
use Rattle.query_tree.specs.declared.part.Catch.{Catch}
use Rattle.query_tree.specs.declared.part.Pair.{Pair}
use Rattle.query_tree.specs.declared.step.Lookup.{Lookup}
use Rattle.query_tree.specs.declared.step.Step.{Step}
use Rattle.query_tree.specs.declared.names.Placed.{Placed}
use Rattle.query_tree.specs.declared.operator.CompareOp.{CompareOp}
use Rattle.query_tree.specs.declared.operator.ProductOp.{ProductOp}
use Rattle.query_tree.specs.declared.operator.Quantifier.{Quantifier}
use Rattle.query_tree.specs.declared.operator.SumOp.{SumOp}
use Rattle.query_tree.specs.declared.clause.GroupVar.TheVariants as group_var
use Rattle.query_tree.specs.declared.part.Pair.TheVariants as pair
use Rattle.query_tree.specs.declared.step.Lookup.TheVariants as lookup
use Rattle.query_tree.specs.declared.step.Step.TheVariants as step
use Rattle.query_tree.specs.declared.clause.Clause.TheOpen as node

mutual
  pub data Tree (V F T : Type 0) : Type 0 where
    tree_node : (place : ℕ) → (kind : Form V F T) → Tree V F T

  pub data Trees (V F T : Type 0) : Type 0 where
    no_trees : Trees V F T
    more_trees : Tree V F T → Trees V F T → Trees V F T

  pub data PlainClause (V F T : Type 0) : Type 0 where
    for_clause : (variable : Placed V) → (of : Option (Placed T)) → (allowing_empty : Bool)
        → (at : Option (Placed V)) → (source : Tree V F T) → PlainClause V F T
    let_clause : (variable : Placed V) → (of : Option (Placed T)) → (value : Tree V F T)
        → PlainClause V F T
    where_clause : (place : ℕ) → (test : Tree V F T) → PlainClause V F T
    group_clause : (place : ℕ) → (keys : PlainGroupVars V F T) → PlainClause V F T
    order_clause : (place : ℕ) → (stable : Bool) → (keys : PlainOrderKeys V F T) → PlainClause V F T
    count_clause : (place : ℕ) → (variable : Placed V) → PlainClause V F T

  pub data PlainClauses (V F T : Type 0) : Type 0 where
    no_clauses : PlainClauses V F T
    more_clauses : PlainClause V F T → PlainClauses V F T → PlainClauses V F T

  pub data Form (V F T : Type 0) : Type 0 where
    comma_form : (first : Tree V F T) → (rest : PlainOperands V F T) → Form V F T
    flwor_form : (clauses : PlainClauses V F T) → (place : ℕ) → (result : Tree V F T) → Form V F T
    quant_form : (quantifier : Quantifier) → (binds : PlainBinds V F T) → (test : Tree V F T)
        → Form V F T
    switch_form : (operand : Tree V F T) → (cases : PlainCases V F T) → (default : Tree V F T)
        → Form V F T
    typeswitch_form : (operand : Tree V F T) → (cases : PlainTypeCases V F T)
        → (variable : Option (Placed V)) → (default : Tree V F T) → Form V F T
    if_form : (condition : Tree V F T) → (when_true : Tree V F T) → (when_false : Tree V F T)
        → Form V F T
    try_form : (body : Tree V F T) → (catches : PlainCatches V F T) → Form V F T
    or_form : (first : Tree V F T) → (rest : PlainOperands V F T) → Form V F T
    and_form : (first : Tree V F T) → (rest : PlainOperands V F T) → Form V F T
    not_form : (operand : Tree V F T) → Form V F T
    compare_form : (left : Tree V F T) → (op : CompareOp) → (place : ℕ) → (right : Tree V F T)
        → Form V F T
    concat_form : (first : Tree V F T) → (rest : PlainOperands V F T) → Form V F T
    range_form : (left : Tree V F T) → (place : ℕ) → (right : Tree V F T) → Form V F T
    sum_form : (first : Tree V F T) → (rest : PlainTerms V F T) → Form V F T
    product_form : (first : Tree V F T) → (rest : PlainFactors V F T) → Form V F T
    instance_form : (operand : Tree V F T) → (place : ℕ) → (of : Placed T) → Form V F T
    treat_form : (operand : Tree V F T) → (place : ℕ) → (to : Placed T) → Form V F T
    castable_form : (operand : Tree V F T) → (place : ℕ) → (to : Placed T) → Form V F T
    cast_form : (operand : Tree V F T) → (place : ℕ) → (to : Placed T) → Form V F T
    sign_form : (signs : List (SumOp × ℕ)) → (operand : Tree V F T) → Form V F T
    map_form : (first : Tree V F T) → (rest : PlainOperands V F T) → Form V F T
    postfix_form : (primary : Tree V F T) → (steps : PlainSteps V F T) → Form V F T
    int_form : (value : ℤ) → Form V F T
    dec_form : (value : ℤ) → Form V F T
    text_form : (value : List ℕ) → Form V F T
    true_form : Form V F T
    false_form : Form V F T
    null_form : Form V F T
    var_form : (variable : V) → Form V F T
    context_form : Form V F T
    paren_form : (content : MaybeTree V F T) → Form V F T
    object_form : (pairs : PlainPairs V F T) → Form V F T
    merge_form : (content : MaybeTree V F T) → Form V F T
    array_form : (content : MaybeTree V F T) → Form V F T
    call_form : (function : F) → (arguments : Trees V F T) → Form V F T

  pub data PlainGroupVar (V F T : Type 0) : Type 0 where
    stream_group_var : (variable : Placed V) → PlainGroupVar V F T
    computed_group_var : (variable : Placed V) → (value : Tree V F T) → PlainGroupVar V F T

  pub data PlainGroupVars (V F T : Type 0) : Type 0 where
    no_group_vars : PlainGroupVars V F T
    more_group_vars : PlainGroupVar V F T → PlainGroupVars V F T → PlainGroupVars V F T

  pub data PlainOrderKey (V F T : Type 0) : Type 0 where
    order_key_node : (value : Tree V F T) → (descending : Bool) → (empty_greatest : Bool)
        → PlainOrderKey V F T

  pub data PlainOrderKeys (V F T : Type 0) : Type 0 where
    no_order_keys : PlainOrderKeys V F T
    more_order_keys : PlainOrderKey V F T → PlainOrderKeys V F T → PlainOrderKeys V F T

  pub data PlainOperand (V F T : Type 0) : Type 0 where
    operand_node : (place : ℕ) → (value : Tree V F T) → PlainOperand V F T

  pub data PlainOperands (V F T : Type 0) : Type 0 where
    no_operands : PlainOperands V F T
    more_operands : PlainOperand V F T → PlainOperands V F T → PlainOperands V F T

  pub data PlainTerm (V F T : Type 0) : Type 0 where
    term_node : (op : SumOp) → (place : ℕ) → (value : Tree V F T) → PlainTerm V F T

  pub data PlainTerms (V F T : Type 0) : Type 0 where
    no_terms : PlainTerms V F T
    more_terms : PlainTerm V F T → PlainTerms V F T → PlainTerms V F T

  pub data PlainFactor (V F T : Type 0) : Type 0 where
    factor_node : (op : ProductOp) → (place : ℕ) → (value : Tree V F T) → PlainFactor V F T

  pub data PlainFactors (V F T : Type 0) : Type 0 where
    no_factors : PlainFactors V F T
    more_factors : PlainFactor V F T → PlainFactors V F T → PlainFactors V F T

  pub data PlainBind (V F T : Type 0) : Type 0 where
    bind_node : (variable : Placed V) → (of : Option (Placed T)) → (source : Tree V F T)
        → PlainBind V F T

  pub data PlainBinds (V F T : Type 0) : Type 0 where
    no_binds : PlainBinds V F T
    more_binds : PlainBind V F T → PlainBinds V F T → PlainBinds V F T

  pub data PlainCase (V F T : Type 0) : Type 0 where
    case_node : (tests : Trees V F T) → (result : Tree V F T) → PlainCase V F T

  pub data PlainCases (V F T : Type 0) : Type 0 where
    no_cases : PlainCases V F T
    more_cases : PlainCase V F T → PlainCases V F T → PlainCases V F T

  pub data PlainTypeCase (V F T : Type 0) : Type 0 where
    type_case_node : (variable : Option (Placed V)) → (types : List (Placed T))
        → (result : Tree V F T) → PlainTypeCase V F T

  pub data PlainTypeCases (V F T : Type 0) : Type 0 where
    no_type_cases : PlainTypeCases V F T
    more_type_cases : PlainTypeCase V F T → PlainTypeCases V F T → PlainTypeCases V F T

  pub data PlainCatch (V F T : Type 0) : Type 0 where
    catch_node : (error : Placed V) → (codes : Option (List (List ℕ))) → (body : Tree V F T)
        → PlainCatch V F T

  pub data PlainCatches (V F T : Type 0) : Type 0 where
    no_catches : PlainCatches V F T
    more_catches : PlainCatch V F T → PlainCatches V F T → PlainCatches V F T

  pub data PlainPair (V F T : Type 0) : Type 0 where
    named_pair : (name : List ℕ) → (place : ℕ) → (value : Tree V F T) → PlainPair V F T
    computed_pair : (key : Tree V F T) → (place : ℕ) → (value : Tree V F T) → PlainPair V F T

  pub data PlainPairs (V F T : Type 0) : Type 0 where
    no_pairs : PlainPairs V F T
    more_pairs : PlainPair V F T → PlainPairs V F T → PlainPairs V F T

  pub data PlainLookup (V F T : Type 0) : Type 0 where
    name_lookup : (name : List ℕ) → PlainLookup V F T
    text_lookup : (value : List ℕ) → PlainLookup V F T
    var_lookup : (variable : Placed V) → PlainLookup V F T
    context_lookup : (place : ℕ) → PlainLookup V F T
    computed_lookup : (value : Tree V F T) → PlainLookup V F T

  pub data PlainStep (V F T : Type 0) : Type 0 where
    members_step : (place : ℕ) → PlainStep V F T
    member_step : (place : ℕ) → (position : Tree V F T) → PlainStep V F T
    filter_step : (place : ℕ) → (test : Tree V F T) → PlainStep V F T
    field_step : (place : ℕ) → (key : PlainLookup V F T) → PlainStep V F T

  pub data PlainSteps (V F T : Type 0) : Type 0 where
    no_steps : PlainSteps V F T
    more_steps : PlainStep V F T → PlainSteps V F T → PlainSteps V F T

  pub data MaybeTree (V F T : Type 0) : Type 0 where
    no_tree : MaybeTree V F T
    one_tree : Tree V F T → MaybeTree V F T

module _ (V F T : Type 0) where
  abbrev pub clauses_of : List (PlainClause V F T) → PlainClauses V F T
  clauses_of [] = no_clauses
  clauses_of (x ∷ xs) = more_clauses x (clauses_of xs)

  abbrev pub listed_clauses : PlainClauses V F T → List (PlainClause V F T)
  listed_clauses no_clauses = []
  listed_clauses (more_clauses x xs) = x ∷ listed_clauses xs

  abbrev pub trees_of : List (Tree V F T) → Trees V F T
  trees_of [] = no_trees
  trees_of (x ∷ xs) = more_trees x (trees_of xs)

  abbrev pub listed_trees : Trees V F T → List (Tree V F T)
  listed_trees no_trees = []
  listed_trees (more_trees x xs) = x ∷ listed_trees xs

  abbrev pub group_vars_of : List (PlainGroupVar V F T) → PlainGroupVars V F T
  group_vars_of [] = no_group_vars
  group_vars_of (x ∷ xs) = more_group_vars x (group_vars_of xs)

  abbrev pub listed_group_vars : PlainGroupVars V F T → List (PlainGroupVar V F T)
  listed_group_vars no_group_vars = []
  listed_group_vars (more_group_vars x xs) = x ∷ listed_group_vars xs

  abbrev pub order_keys_of : List (PlainOrderKey V F T) → PlainOrderKeys V F T
  order_keys_of [] = no_order_keys
  order_keys_of (x ∷ xs) = more_order_keys x (order_keys_of xs)

  abbrev pub listed_order_keys : PlainOrderKeys V F T → List (PlainOrderKey V F T)
  listed_order_keys no_order_keys = []
  listed_order_keys (more_order_keys x xs) = x ∷ listed_order_keys xs

  abbrev pub operands_of : List (PlainOperand V F T) → PlainOperands V F T
  operands_of [] = no_operands
  operands_of (x ∷ xs) = more_operands x (operands_of xs)

  abbrev pub listed_operands : PlainOperands V F T → List (PlainOperand V F T)
  listed_operands no_operands = []
  listed_operands (more_operands x xs) = x ∷ listed_operands xs

  abbrev pub terms_of : List (PlainTerm V F T) → PlainTerms V F T
  terms_of [] = no_terms
  terms_of (x ∷ xs) = more_terms x (terms_of xs)

  abbrev pub listed_terms : PlainTerms V F T → List (PlainTerm V F T)
  listed_terms no_terms = []
  listed_terms (more_terms x xs) = x ∷ listed_terms xs

  abbrev pub factors_of : List (PlainFactor V F T) → PlainFactors V F T
  factors_of [] = no_factors
  factors_of (x ∷ xs) = more_factors x (factors_of xs)

  abbrev pub listed_factors : PlainFactors V F T → List (PlainFactor V F T)
  listed_factors no_factors = []
  listed_factors (more_factors x xs) = x ∷ listed_factors xs

  abbrev pub binds_of : List (PlainBind V F T) → PlainBinds V F T
  binds_of [] = no_binds
  binds_of (x ∷ xs) = more_binds x (binds_of xs)

  abbrev pub listed_binds : PlainBinds V F T → List (PlainBind V F T)
  listed_binds no_binds = []
  listed_binds (more_binds x xs) = x ∷ listed_binds xs

  abbrev pub cases_of : List (PlainCase V F T) → PlainCases V F T
  cases_of [] = no_cases
  cases_of (x ∷ xs) = more_cases x (cases_of xs)

  abbrev pub listed_cases : PlainCases V F T → List (PlainCase V F T)
  listed_cases no_cases = []
  listed_cases (more_cases x xs) = x ∷ listed_cases xs

  abbrev pub type_cases_of : List (PlainTypeCase V F T) → PlainTypeCases V F T
  type_cases_of [] = no_type_cases
  type_cases_of (x ∷ xs) = more_type_cases x (type_cases_of xs)

  abbrev pub listed_type_cases : PlainTypeCases V F T → List (PlainTypeCase V F T)
  listed_type_cases no_type_cases = []
  listed_type_cases (more_type_cases x xs) = x ∷ listed_type_cases xs

  abbrev pub catches_of : List (PlainCatch V F T) → PlainCatches V F T
  catches_of [] = no_catches
  catches_of (x ∷ xs) = more_catches x (catches_of xs)

  abbrev pub listed_catches : PlainCatches V F T → List (PlainCatch V F T)
  listed_catches no_catches = []
  listed_catches (more_catches x xs) = x ∷ listed_catches xs

  abbrev pub pairs_of : List (PlainPair V F T) → PlainPairs V F T
  pairs_of [] = no_pairs
  pairs_of (x ∷ xs) = more_pairs x (pairs_of xs)

  abbrev pub listed_pairs : PlainPairs V F T → List (PlainPair V F T)
  listed_pairs no_pairs = []
  listed_pairs (more_pairs x xs) = x ∷ listed_pairs xs

  abbrev pub steps_of : List (PlainStep V F T) → PlainSteps V F T
  steps_of [] = no_steps
  steps_of (x ∷ xs) = more_steps x (steps_of xs)

  abbrev pub listed_steps : PlainSteps V F T → List (PlainStep V F T)
  listed_steps no_steps = []
  listed_steps (more_steps x xs) = x ∷ listed_steps xs

  abbrev pub maybe_tree : Option (Box (Tree V F T) Global) → MaybeTree V F T
  maybe_tree None = no_tree
  maybe_tree (Some t) = one_tree t.value

  abbrev pub group_var_layer : GroupVar V (Tree V F T) → PlainGroupVar V F T
  group_var_layer (group_var.Stream variable') = stream_group_var variable'
  group_var_layer (group_var.Computed variable' value') = computed_group_var variable' value'

  abbrev pub order_key_layer : OrderKey (Tree V F T) → PlainOrderKey V F T
  order_key_layer x = order_key_node x.value x.descending x.empty_greatest

  abbrev pub operand_layer : Operand (Tree V F T) → PlainOperand V F T
  operand_layer x = operand_node x.place x.value

  abbrev pub term_layer : Term (Tree V F T) → PlainTerm V F T
  term_layer x = term_node x.op x.place x.value

  abbrev pub factor_layer : Factor (Tree V F T) → PlainFactor V F T
  factor_layer x = factor_node x.op x.place x.value

  abbrev pub bind_layer : Bind V T (Tree V F T) → PlainBind V F T
  bind_layer x = bind_node x.variable x.of x.source

  abbrev pub case_layer : Case (Tree V F T) → PlainCase V F T
  case_layer x = case_node (trees_of x.tests.items) x.result

  abbrev pub type_case_layer : TypeCase V T (Tree V F T) → PlainTypeCase V F T
  type_case_layer x = type_case_node x.variable x.types.items x.result

  abbrev pub catch_layer : Catch V (Tree V F T) → PlainCatch V F T
  catch_layer x = catch_node x.error (option_map (λ v. v.items) x.codes) x.body

  abbrev pub pair_layer : Pair (Tree V F T) → PlainPair V F T
  pair_layer (pair.Named name' place' value') = named_pair name' place' value'
  pair_layer (pair.Computed key' place' value') = computed_pair key' place' value'

  abbrev pub lookup_layer : Lookup V (Tree V F T) → PlainLookup V F T
  lookup_layer (lookup.Name name') = name_lookup name'
  lookup_layer (lookup.Text value') = text_lookup value'
  lookup_layer (lookup.Var variable') = var_lookup variable'
  lookup_layer (lookup.Context place') = context_lookup place'
  lookup_layer (lookup.Computed value') = computed_lookup value'

  abbrev pub step_layer : Step V (Tree V F T) → PlainStep V F T
  step_layer (step.Members place') = members_step place'
  step_layer (step.Member place' position') = member_step place' position'
  step_layer (step.Filter place' test') = filter_step place' test'
  step_layer (step.Field place' key') = field_step place' (lookup_layer key')

  abbrev pub clause_layer : Clause-F V F T (PlainClause V F T) (Form V F T) (Tree V F T)
      → PlainClause V F T
  clause_layer (node.For variable' of' allowing_empty' at' source') =
      for_clause variable' of' allowing_empty' at' source'
  clause_layer (node.Let variable' of' value') = let_clause variable' of' value'
  clause_layer (node.Where place' test') = where_clause place' test'
  clause_layer (node.Group place' keys') =
      group_clause place' (group_vars_of (map group_var_layer keys'.items))
  clause_layer (node.Order place' stable' keys') =
      order_clause place' stable' (order_keys_of (map order_key_layer keys'.items))
  clause_layer (node.Count place' variable') = count_clause place' variable'

  abbrev pub kind_layer : Kind-F V F T (PlainClause V F T) (Form V F T) (Tree V F T) → Form V F T
  kind_layer (node.Comma first' rest') =
      comma_form first'.value (operands_of (map operand_layer rest'.items))
  kind_layer (node.Flwor clauses' place' result') =
      flwor_form (clauses_of clauses'.items) place' result'.value
  kind_layer (node.Quant quantifier' binds' test') =
      quant_form quantifier' (binds_of (map bind_layer binds'.items)) test'.value
  kind_layer (node.Switch operand' cases' default') =
      switch_form operand'.value (cases_of (map case_layer cases'.items)) default'.value
  kind_layer (node.Typeswitch operand' cases' variable' default') =
      typeswitch_form operand'.value (type_cases_of (map type_case_layer cases'.items)) variable'
      default'.value
  kind_layer (node.If condition' when_true' when_false') =
      if_form condition'.value when_true'.value when_false'.value
  kind_layer (node.Try body' catches') =
      try_form body'.value (catches_of (map catch_layer catches'.items))
  kind_layer (node.Or first' rest') =
      or_form first'.value (operands_of (map operand_layer rest'.items))
  kind_layer (node.And first' rest') =
      and_form first'.value (operands_of (map operand_layer rest'.items))
  kind_layer (node.Not operand') = not_form operand'.value
  kind_layer (node.Compare left' op' place' right') =
      compare_form left'.value op' place' right'.value
  kind_layer (node.Concat first' rest') =
      concat_form first'.value (operands_of (map operand_layer rest'.items))
  kind_layer (node.Range left' place' right') = range_form left'.value place' right'.value
  kind_layer (node.Sum first' rest') = sum_form first'.value (terms_of (map term_layer rest'.items))
  kind_layer (node.Product first' rest') =
      product_form first'.value (factors_of (map factor_layer rest'.items))
  kind_layer (node.Instance operand' place' of') = instance_form operand'.value place' of'
  kind_layer (node.Treat operand' place' to') = treat_form operand'.value place' to'
  kind_layer (node.Castable operand' place' to') = castable_form operand'.value place' to'
  kind_layer (node.Cast operand' place' to') = cast_form operand'.value place' to'
  kind_layer (node.Sign signs' operand') = sign_form signs'.items operand'.value
  kind_layer (node.Map first' rest') =
      map_form first'.value (operands_of (map operand_layer rest'.items))
  kind_layer (node.Postfix primary' steps') =
      postfix_form primary'.value (steps_of (map step_layer steps'.items))
  kind_layer (node.Int value') = int_form value'
  kind_layer (node.Dec value') = dec_form value'
  kind_layer (node.Text value') = text_form value'
  kind_layer node.True = true_form
  kind_layer node.False = false_form
  kind_layer node.Null = null_form
  kind_layer (node.Var variable') = var_form variable'
  kind_layer node.Context = context_form
  kind_layer (node.Paren content') = paren_form (maybe_tree content')
  kind_layer (node.Object pairs') = object_form (pairs_of (map pair_layer pairs'.items))
  kind_layer (node.Merge content') = merge_form (maybe_tree content')
  kind_layer (node.Array content') = array_form (maybe_tree content')
  kind_layer (node.Call function' arguments') = call_form function' (trees_of arguments'.items)

  abbrev pub expr_layer : Expr-F V F T (PlainClause V F T) (Form V F T) (Tree V F T) → Tree V F T
  expr_layer x = tree_node x.place x.kind

  unfoldable pub clause_of : Clause V F T → PlainClause V F T
  clause_of =
      fold-Clause V F T (PlainClause V F T) (Form V F T) (Tree V F T) clause_layer kind_layer
      expr_layer

  unfoldable pub form_of : Kind V F T → Form V F T
  form_of =
      fold-Kind V F T (PlainClause V F T) (Form V F T) (Tree V F T) clause_layer kind_layer
      expr_layer

  unfoldable pub tree_of : Expr V F T → Tree V F T
  tree_of =
      fold-Expr V F T (PlainClause V F T) (Form V F T) (Tree V F T) clause_layer kind_layer
      expr_layer

  abbrev pub maybe_tree_of : Option (Box (Expr V F T) Global) → MaybeTree V F T
  maybe_tree_of None = no_tree
  maybe_tree_of (Some e) = one_tree (tree_of e.value)

  abbrev pub group_var_of : GroupVar V (Expr V F T) → PlainGroupVar V F T
  group_var_of (group_var.Stream variable') = stream_group_var variable'
  group_var_of (group_var.Computed variable' value') = computed_group_var variable' (tree_of value')

  abbrev pub order_key_of : OrderKey (Expr V F T) → PlainOrderKey V F T
  order_key_of x = order_key_node (tree_of x.value) x.descending x.empty_greatest

  abbrev pub operand_of : Operand (Expr V F T) → PlainOperand V F T
  operand_of x = operand_node x.place (tree_of x.value)

  abbrev pub term_of : Term (Expr V F T) → PlainTerm V F T
  term_of x = term_node x.op x.place (tree_of x.value)

  abbrev pub factor_of : Factor (Expr V F T) → PlainFactor V F T
  factor_of x = factor_node x.op x.place (tree_of x.value)

  abbrev pub bind_of : Bind V T (Expr V F T) → PlainBind V F T
  bind_of x = bind_node x.variable x.of (tree_of x.source)

  abbrev pub case_of : Case (Expr V F T) → PlainCase V F T
  case_of x = case_node (trees_of (map tree_of x.tests.items)) (tree_of x.result)

  abbrev pub type_case_of : TypeCase V T (Expr V F T) → PlainTypeCase V F T
  type_case_of x = type_case_node x.variable x.types.items (tree_of x.result)

  abbrev pub catch_of : Catch V (Expr V F T) → PlainCatch V F T
  catch_of x = catch_node x.error (option_map (λ v. v.items) x.codes) (tree_of x.body)

  abbrev pub pair_of : Pair (Expr V F T) → PlainPair V F T
  pair_of (pair.Named name' place' value') = named_pair name' place' (tree_of value')
  pair_of (pair.Computed key' place' value') = computed_pair (tree_of key') place' (tree_of value')

  abbrev pub lookup_of : Lookup V (Expr V F T) → PlainLookup V F T
  lookup_of (lookup.Name name') = name_lookup name'
  lookup_of (lookup.Text value') = text_lookup value'
  lookup_of (lookup.Var variable') = var_lookup variable'
  lookup_of (lookup.Context place') = context_lookup place'
  lookup_of (lookup.Computed value') = computed_lookup (tree_of value')

  abbrev pub step_of : Step V (Expr V F T) → PlainStep V F T
  step_of (step.Members place') = members_step place'
  step_of (step.Member place' position') = member_step place' (tree_of position')
  step_of (step.Filter place' test') = filter_step place' (tree_of test')
  step_of (step.Field place' key') = field_step place' (lookup_of key')
