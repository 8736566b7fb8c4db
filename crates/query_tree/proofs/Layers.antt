-- Written by tools/plain_trees.py from the types of src/. Change those, and run it again.
-- The plain value of a tree, at each kind of node. For other crates too.
use Rattle.std.proofs.Common.{◌≡◌, ℕ, ℤ, Bool, List, Option, Some, None, map, refl, ap, ◌∙◌}
use Rattle.std.specs.declared.alloc.Global.{Global}
use Rattle.std.specs.declared.boxed.Box.{Box}
use Rattle.std.specs.Prelude.{Vec}
use Rattle.query_tree.specs.declared.clause.Clause.{Clause}
use Rattle.query_tree.specs.declared.clause.Clause.TheVariants as clause
use Rattle.query_tree.specs.declared.expr.Kind.{Kind}
use Rattle.query_tree.specs.declared.expr.Kind.TheVariants as kind
use Rattle.query_tree.specs.declared.expr.Expr.{Expr, roll-Expr, fold_out-Expr, fold-roll-Expr}
use Rattle.query_tree.specs.declared.clause.GroupVar.{GroupVar}
use Rattle.query_tree.specs.declared.clause.OrderKey.{OrderKey}
use Rattle.query_tree.specs.declared.part.Operand.{Operand}
use Rattle.query_tree.specs.declared.part.Term.{Term}
use Rattle.query_tree.specs.declared.part.Factor.{Factor}
use Rattle.query_tree.specs.declared.part.Bind.{Bind}
use Rattle.query_tree.specs.declared.part.Case.{Case}
use Rattle.query_tree.specs.declared.part.TypeCase.{TypeCase}
use Rattle.query_tree.specs.declared.part.Catch.{Catch}
use Rattle.query_tree.specs.declared.part.Pair.{Pair}
use Rattle.query_tree.specs.declared.step.Step.{Step}
use Rattle.query_tree.specs.declared.names.Placed.{Placed}
use Rattle.query_tree.specs.declared.operator.CompareOp.{CompareOp}
use Rattle.query_tree.specs.declared.operator.Quantifier.{Quantifier}
use Rattle.query_tree.specs.declared.operator.SumOp.{SumOp}
use Rattle.query_tree.specs.Plain.{PlainClause, Form, Tree, clauses_of, trees_of, group_vars_of, order_keys_of, operands_of, terms_of, factors_of, binds_of, cases_of, type_cases_of, catches_of, pairs_of, steps_of, for_clause, let_clause, where_clause, group_clause, order_clause, count_clause, comma_form, flwor_form, quant_form, switch_form, typeswitch_form, if_form, try_form, or_form, and_form, not_form, compare_form, concat_form, range_form, sum_form, product_form, instance_form, treat_form, castable_form, cast_form, sign_form, map_form, postfix_form, int_form, dec_form, text_form, true_form, false_form, null_form, var_form, context_form, paren_form, object_form, merge_form, array_form, call_form, tree_node, clause_layer, kind_layer, expr_layer, group_var_layer, order_key_layer, operand_layer, term_layer, factor_layer, bind_layer, case_layer, type_case_layer, catch_layer, pair_layer, step_layer, group_var_of, order_key_of, operand_of, term_of, factor_of, bind_of, case_of, type_case_of, catch_of, pair_of, step_of, clause_of, form_of, tree_of, maybe_tree_of}
use Rattle.query_tree.specs.declared.clause.GroupVar.TheVariants as group_var
use Rattle.query_tree.specs.declared.part.Pair.TheVariants as pair
use Rattle.query_tree.specs.declared.step.Lookup.TheVariants as lookup
use Rattle.query_tree.specs.declared.step.Step.TheVariants as step
use Rattle.query_tree.proofs.Maps.{map_same}
use Rattle.query_tree.proofs.Folds.{clause_fold, kind_fold}

module _ (V F T : Type 0) where
  group_var_same : (move : GroupVar V (Expr V F T) → GroupVar V (Tree V F T)) → ((variable' : Placed V) → group_var_layer V F T (move (group_var.Stream variable')) ≡ group_var_of V F T (group_var.Stream variable')) → ((variable' : Placed V) → (value' : Expr V F T) → group_var_layer V F T (move (group_var.Computed variable' value')) ≡ group_var_of V F T (group_var.Computed variable' value')) → (x : GroupVar V (Expr V F T)) → group_var_layer V F T (move x) ≡ group_var_of V F T x
  group_var_same move c0 c1 (group_var.Stream variable') = c0 variable'
  group_var_same move c0 c1 (group_var.Computed variable' value') = c1 variable' value'

  pair_same : (move : Pair (Expr V F T) → Pair (Tree V F T)) → ((name' : List ℕ) → (place' : ℕ) → (value' : Expr V F T) → pair_layer V F T (move (pair.Named name' place' value')) ≡ pair_of V F T (pair.Named name' place' value')) → ((key' : Expr V F T) → (place' : ℕ) → (value' : Expr V F T) → pair_layer V F T (move (pair.Computed key' place' value')) ≡ pair_of V F T (pair.Computed key' place' value')) → (x : Pair (Expr V F T)) → pair_layer V F T (move x) ≡ pair_of V F T x
  pair_same move c0 c1 (pair.Named name' place' value') = c0 name' place' value'
  pair_same move c0 c1 (pair.Computed key' place' value') = c1 key' place' value'

  step_same : (move : Step V (Expr V F T) → Step V (Tree V F T)) → ((place' : ℕ) → step_layer V F T (move (step.Members place')) ≡ step_of V F T (step.Members place')) → ((place' : ℕ) → (position' : Expr V F T) → step_layer V F T (move (step.Member place' position')) ≡ step_of V F T (step.Member place' position')) → ((place' : ℕ) → (test' : Expr V F T) → step_layer V F T (move (step.Filter place' test')) ≡ step_of V F T (step.Filter place' test')) → ((place' : ℕ) → (name'' : List ℕ) → step_layer V F T (move (step.Field place' (lookup.Name name''))) ≡ step_of V F T (step.Field place' (lookup.Name name''))) → ((place' : ℕ) → (value'' : List ℕ) → step_layer V F T (move (step.Field place' (lookup.Text value''))) ≡ step_of V F T (step.Field place' (lookup.Text value''))) → ((place' : ℕ) → (variable'' : Placed V) → step_layer V F T (move (step.Field place' (lookup.Var variable''))) ≡ step_of V F T (step.Field place' (lookup.Var variable''))) → ((place' : ℕ) → (place'' : ℕ) → step_layer V F T (move (step.Field place' (lookup.Context place''))) ≡ step_of V F T (step.Field place' (lookup.Context place''))) → ((place' : ℕ) → (value'' : Expr V F T) → step_layer V F T (move (step.Field place' (lookup.Computed value''))) ≡ step_of V F T (step.Field place' (lookup.Computed value''))) → (x : Step V (Expr V F T)) → step_layer V F T (move x) ≡ step_of V F T x
  step_same move c0 c1 c2 c3 c4 c5 c6 c7 (step.Members place') = c0 place'
  step_same move c0 c1 c2 c3 c4 c5 c6 c7 (step.Member place' position') = c1 place' position'
  step_same move c0 c1 c2 c3 c4 c5 c6 c7 (step.Filter place' test') = c2 place' test'
  step_same move c0 c1 c2 c3 c4 c5 c6 c7 (step.Field place' (lookup.Name name'')) = c3 place' name''
  step_same move c0 c1 c2 c3 c4 c5 c6 c7 (step.Field place' (lookup.Text value'')) = c4 place' value''
  step_same move c0 c1 c2 c3 c4 c5 c6 c7 (step.Field place' (lookup.Var variable'')) = c5 place' variable''
  step_same move c0 c1 c2 c3 c4 c5 c6 c7 (step.Field place' (lookup.Context place'')) = c6 place' place''
  step_same move c0 c1 c2 c3 c4 c5 c6 c7 (step.Field place' (lookup.Computed value'')) = c7 place' value''

  pub clause_of-For : (variable' : Placed V) (of' : Option (Placed T)) (allowing_empty' : Bool) (at' : Option (Placed V)) (source' : Expr V F T) → clause_of V F T (clause.For variable' of' allowing_empty' at' source') ≡ for_clause variable' of' allowing_empty' at' (tree_of V F T source')
  unfolding clause_of form_of tree_of
  clause_of-For variable' of' allowing_empty' at' source' = clause_fold V F T (PlainClause V F T) (Form V F T) (Tree V F T) (clause_layer V F T) (kind_layer V F T) (expr_layer V F T) (clause.For variable' of' allowing_empty' at' source') _ (clause.outs-For variable' of' allowing_empty' at' source')

  pub clause_of-Let : (variable' : Placed V) (of' : Option (Placed T)) (value' : Expr V F T) → clause_of V F T (clause.Let variable' of' value') ≡ let_clause variable' of' (tree_of V F T value')
  unfolding clause_of form_of tree_of
  clause_of-Let variable' of' value' = clause_fold V F T (PlainClause V F T) (Form V F T) (Tree V F T) (clause_layer V F T) (kind_layer V F T) (expr_layer V F T) (clause.Let variable' of' value') _ (clause.outs-Let variable' of' value')

  pub clause_of-Where : (place' : ℕ) (test' : Expr V F T) → clause_of V F T (clause.Where place' test') ≡ where_clause place' (tree_of V F T test')
  unfolding clause_of form_of tree_of
  clause_of-Where place' test' = clause_fold V F T (PlainClause V F T) (Form V F T) (Tree V F T) (clause_layer V F T) (kind_layer V F T) (expr_layer V F T) (clause.Where place' test') _ (clause.outs-Where place' test')

  pub clause_of-Group : (place' : ℕ) (keys' : Vec (GroupVar V (Expr V F T)) Global) → clause_of V F T (clause.Group place' keys') ≡ group_clause place' (group_vars_of V F T (map (group_var_of V F T) keys'.items))
  unfolding clause_of form_of tree_of
  clause_of-Group place' keys' = clause_fold V F T (PlainClause V F T) (Form V F T) (Tree V F T) (clause_layer V F T) (kind_layer V F T) (expr_layer V F T) (clause.Group place' keys') _ (clause.outs-Group place' keys') ∙ ap (λ xs. group_clause place' (group_vars_of V F T xs)) (map_same _ (group_var_layer V F T) (group_var_of V F T) (group_var_same _ (λ variable'. refl) (λ variable' value'. refl)) keys'.items)

  pub clause_of-Order : (place' : ℕ) (stable' : Bool) (keys' : Vec (OrderKey (Expr V F T)) Global) → clause_of V F T (clause.Order place' stable' keys') ≡ order_clause place' stable' (order_keys_of V F T (map (order_key_of V F T) keys'.items))
  unfolding clause_of form_of tree_of
  clause_of-Order place' stable' keys' = clause_fold V F T (PlainClause V F T) (Form V F T) (Tree V F T) (clause_layer V F T) (kind_layer V F T) (expr_layer V F T) (clause.Order place' stable' keys') _ (clause.outs-Order place' stable' keys') ∙ ap (λ xs. order_clause place' stable' (order_keys_of V F T xs)) (map_same _ (order_key_layer V F T) (order_key_of V F T) (λ x. refl) keys'.items)

  pub clause_of-Count : (place' : ℕ) (variable' : Placed V) → clause_of V F T (clause.Count place' variable') ≡ count_clause place' variable'
  unfolding clause_of form_of tree_of
  clause_of-Count place' variable' = clause_fold V F T (PlainClause V F T) (Form V F T) (Tree V F T) (clause_layer V F T) (kind_layer V F T) (expr_layer V F T) (clause.Count place' variable') _ (clause.outs-Count place' variable')

  pub form_of-Comma : (first' : Box (Expr V F T) Global) (rest' : Vec (Operand (Expr V F T)) Global) → form_of V F T (kind.Comma first' rest') ≡ comma_form (tree_of V F T first'.value) (operands_of V F T (map (operand_of V F T) rest'.items))
  unfolding clause_of form_of tree_of
  form_of-Comma first' rest' = kind_fold V F T (PlainClause V F T) (Form V F T) (Tree V F T) (clause_layer V F T) (kind_layer V F T) (expr_layer V F T) (kind.Comma first' rest') _ (kind.outs-Comma first' rest') ∙ ap (λ xs. comma_form (tree_of V F T first'.value) (operands_of V F T xs)) (map_same _ (operand_layer V F T) (operand_of V F T) (λ x. refl) rest'.items)

  pub form_of-Flwor : (clauses' : Vec (Clause V F T) Global) (place' : ℕ) (result' : Box (Expr V F T) Global) → form_of V F T (kind.Flwor clauses' place' result') ≡ flwor_form (clauses_of V F T (map (clause_of V F T) clauses'.items)) place' (tree_of V F T result'.value)
  unfolding clause_of form_of tree_of
  form_of-Flwor clauses' place' result' = kind_fold V F T (PlainClause V F T) (Form V F T) (Tree V F T) (clause_layer V F T) (kind_layer V F T) (expr_layer V F T) (kind.Flwor clauses' place' result') _ (kind.outs-Flwor clauses' place' result')

  pub form_of-Quant : (quantifier' : Quantifier) (binds' : Vec (Bind V T (Expr V F T)) Global) (test' : Box (Expr V F T) Global) → form_of V F T (kind.Quant quantifier' binds' test') ≡ quant_form quantifier' (binds_of V F T (map (bind_of V F T) binds'.items)) (tree_of V F T test'.value)
  unfolding clause_of form_of tree_of
  form_of-Quant quantifier' binds' test' = kind_fold V F T (PlainClause V F T) (Form V F T) (Tree V F T) (clause_layer V F T) (kind_layer V F T) (expr_layer V F T) (kind.Quant quantifier' binds' test') _ (kind.outs-Quant quantifier' binds' test') ∙ ap (λ xs. quant_form quantifier' (binds_of V F T xs) (tree_of V F T test'.value)) (map_same _ (bind_layer V F T) (bind_of V F T) (λ x. refl) binds'.items)

  pub form_of-Switch : (operand' : Box (Expr V F T) Global) (cases' : Vec (Case (Expr V F T)) Global) (default' : Box (Expr V F T) Global) → form_of V F T (kind.Switch operand' cases' default') ≡ switch_form (tree_of V F T operand'.value) (cases_of V F T (map (case_of V F T) cases'.items)) (tree_of V F T default'.value)
  unfolding clause_of form_of tree_of
  form_of-Switch operand' cases' default' = kind_fold V F T (PlainClause V F T) (Form V F T) (Tree V F T) (clause_layer V F T) (kind_layer V F T) (expr_layer V F T) (kind.Switch operand' cases' default') _ (kind.outs-Switch operand' cases' default') ∙ ap (λ xs. switch_form (tree_of V F T operand'.value) (cases_of V F T xs) (tree_of V F T default'.value)) (map_same _ (case_layer V F T) (case_of V F T) (λ x. refl) cases'.items)

  pub form_of-Typeswitch : (operand' : Box (Expr V F T) Global) (cases' : Vec (TypeCase V T (Expr V F T)) Global) (variable' : Option (Placed V)) (default' : Box (Expr V F T) Global) → form_of V F T (kind.Typeswitch operand' cases' variable' default') ≡ typeswitch_form (tree_of V F T operand'.value) (type_cases_of V F T (map (type_case_of V F T) cases'.items)) variable' (tree_of V F T default'.value)
  unfolding clause_of form_of tree_of
  form_of-Typeswitch operand' cases' variable' default' = kind_fold V F T (PlainClause V F T) (Form V F T) (Tree V F T) (clause_layer V F T) (kind_layer V F T) (expr_layer V F T) (kind.Typeswitch operand' cases' variable' default') _ (kind.outs-Typeswitch operand' cases' variable' default') ∙ ap (λ xs. typeswitch_form (tree_of V F T operand'.value) (type_cases_of V F T xs) variable' (tree_of V F T default'.value)) (map_same _ (type_case_layer V F T) (type_case_of V F T) (λ x. refl) cases'.items)

  pub form_of-If : (condition' : Box (Expr V F T) Global) (when_true' : Box (Expr V F T) Global) (when_false' : Box (Expr V F T) Global) → form_of V F T (kind.If condition' when_true' when_false') ≡ if_form (tree_of V F T condition'.value) (tree_of V F T when_true'.value) (tree_of V F T when_false'.value)
  unfolding clause_of form_of tree_of
  form_of-If condition' when_true' when_false' = kind_fold V F T (PlainClause V F T) (Form V F T) (Tree V F T) (clause_layer V F T) (kind_layer V F T) (expr_layer V F T) (kind.If condition' when_true' when_false') _ (kind.outs-If condition' when_true' when_false')

  pub form_of-Try : (body' : Box (Expr V F T) Global) (catches' : Vec (Catch V (Expr V F T)) Global) → form_of V F T (kind.Try body' catches') ≡ try_form (tree_of V F T body'.value) (catches_of V F T (map (catch_of V F T) catches'.items))
  unfolding clause_of form_of tree_of
  form_of-Try body' catches' = kind_fold V F T (PlainClause V F T) (Form V F T) (Tree V F T) (clause_layer V F T) (kind_layer V F T) (expr_layer V F T) (kind.Try body' catches') _ (kind.outs-Try body' catches') ∙ ap (λ xs. try_form (tree_of V F T body'.value) (catches_of V F T xs)) (map_same _ (catch_layer V F T) (catch_of V F T) (λ x. refl) catches'.items)

  pub form_of-Or : (first' : Box (Expr V F T) Global) (rest' : Vec (Operand (Expr V F T)) Global) → form_of V F T (kind.Or first' rest') ≡ or_form (tree_of V F T first'.value) (operands_of V F T (map (operand_of V F T) rest'.items))
  unfolding clause_of form_of tree_of
  form_of-Or first' rest' = kind_fold V F T (PlainClause V F T) (Form V F T) (Tree V F T) (clause_layer V F T) (kind_layer V F T) (expr_layer V F T) (kind.Or first' rest') _ (kind.outs-Or first' rest') ∙ ap (λ xs. or_form (tree_of V F T first'.value) (operands_of V F T xs)) (map_same _ (operand_layer V F T) (operand_of V F T) (λ x. refl) rest'.items)

  pub form_of-And : (first' : Box (Expr V F T) Global) (rest' : Vec (Operand (Expr V F T)) Global) → form_of V F T (kind.And first' rest') ≡ and_form (tree_of V F T first'.value) (operands_of V F T (map (operand_of V F T) rest'.items))
  unfolding clause_of form_of tree_of
  form_of-And first' rest' = kind_fold V F T (PlainClause V F T) (Form V F T) (Tree V F T) (clause_layer V F T) (kind_layer V F T) (expr_layer V F T) (kind.And first' rest') _ (kind.outs-And first' rest') ∙ ap (λ xs. and_form (tree_of V F T first'.value) (operands_of V F T xs)) (map_same _ (operand_layer V F T) (operand_of V F T) (λ x. refl) rest'.items)

  pub form_of-Not : (operand' : Box (Expr V F T) Global) → form_of V F T (kind.Not operand') ≡ not_form (tree_of V F T operand'.value)
  unfolding clause_of form_of tree_of
  form_of-Not operand' = kind_fold V F T (PlainClause V F T) (Form V F T) (Tree V F T) (clause_layer V F T) (kind_layer V F T) (expr_layer V F T) (kind.Not operand') _ (kind.outs-Not operand')

  pub form_of-Compare : (left' : Box (Expr V F T) Global) (op' : CompareOp) (place' : ℕ) (right' : Box (Expr V F T) Global) → form_of V F T (kind.Compare left' op' place' right') ≡ compare_form (tree_of V F T left'.value) op' place' (tree_of V F T right'.value)
  unfolding clause_of form_of tree_of
  form_of-Compare left' op' place' right' = kind_fold V F T (PlainClause V F T) (Form V F T) (Tree V F T) (clause_layer V F T) (kind_layer V F T) (expr_layer V F T) (kind.Compare left' op' place' right') _ (kind.outs-Compare left' op' place' right')

  pub form_of-Concat : (first' : Box (Expr V F T) Global) (rest' : Vec (Operand (Expr V F T)) Global) → form_of V F T (kind.Concat first' rest') ≡ concat_form (tree_of V F T first'.value) (operands_of V F T (map (operand_of V F T) rest'.items))
  unfolding clause_of form_of tree_of
  form_of-Concat first' rest' = kind_fold V F T (PlainClause V F T) (Form V F T) (Tree V F T) (clause_layer V F T) (kind_layer V F T) (expr_layer V F T) (kind.Concat first' rest') _ (kind.outs-Concat first' rest') ∙ ap (λ xs. concat_form (tree_of V F T first'.value) (operands_of V F T xs)) (map_same _ (operand_layer V F T) (operand_of V F T) (λ x. refl) rest'.items)

  pub form_of-Range : (left' : Box (Expr V F T) Global) (place' : ℕ) (right' : Box (Expr V F T) Global) → form_of V F T (kind.Range left' place' right') ≡ range_form (tree_of V F T left'.value) place' (tree_of V F T right'.value)
  unfolding clause_of form_of tree_of
  form_of-Range left' place' right' = kind_fold V F T (PlainClause V F T) (Form V F T) (Tree V F T) (clause_layer V F T) (kind_layer V F T) (expr_layer V F T) (kind.Range left' place' right') _ (kind.outs-Range left' place' right')

  pub form_of-Sum : (first' : Box (Expr V F T) Global) (rest' : Vec (Term (Expr V F T)) Global) → form_of V F T (kind.Sum first' rest') ≡ sum_form (tree_of V F T first'.value) (terms_of V F T (map (term_of V F T) rest'.items))
  unfolding clause_of form_of tree_of
  form_of-Sum first' rest' = kind_fold V F T (PlainClause V F T) (Form V F T) (Tree V F T) (clause_layer V F T) (kind_layer V F T) (expr_layer V F T) (kind.Sum first' rest') _ (kind.outs-Sum first' rest') ∙ ap (λ xs. sum_form (tree_of V F T first'.value) (terms_of V F T xs)) (map_same _ (term_layer V F T) (term_of V F T) (λ x. refl) rest'.items)

  pub form_of-Product : (first' : Box (Expr V F T) Global) (rest' : Vec (Factor (Expr V F T)) Global) → form_of V F T (kind.Product first' rest') ≡ product_form (tree_of V F T first'.value) (factors_of V F T (map (factor_of V F T) rest'.items))
  unfolding clause_of form_of tree_of
  form_of-Product first' rest' = kind_fold V F T (PlainClause V F T) (Form V F T) (Tree V F T) (clause_layer V F T) (kind_layer V F T) (expr_layer V F T) (kind.Product first' rest') _ (kind.outs-Product first' rest') ∙ ap (λ xs. product_form (tree_of V F T first'.value) (factors_of V F T xs)) (map_same _ (factor_layer V F T) (factor_of V F T) (λ x. refl) rest'.items)

  pub form_of-Instance : (operand' : Box (Expr V F T) Global) (place' : ℕ) (of' : Placed T) → form_of V F T (kind.Instance operand' place' of') ≡ instance_form (tree_of V F T operand'.value) place' of'
  unfolding clause_of form_of tree_of
  form_of-Instance operand' place' of' = kind_fold V F T (PlainClause V F T) (Form V F T) (Tree V F T) (clause_layer V F T) (kind_layer V F T) (expr_layer V F T) (kind.Instance operand' place' of') _ (kind.outs-Instance operand' place' of')

  pub form_of-Treat : (operand' : Box (Expr V F T) Global) (place' : ℕ) (to' : Placed T) → form_of V F T (kind.Treat operand' place' to') ≡ treat_form (tree_of V F T operand'.value) place' to'
  unfolding clause_of form_of tree_of
  form_of-Treat operand' place' to' = kind_fold V F T (PlainClause V F T) (Form V F T) (Tree V F T) (clause_layer V F T) (kind_layer V F T) (expr_layer V F T) (kind.Treat operand' place' to') _ (kind.outs-Treat operand' place' to')

  pub form_of-Castable : (operand' : Box (Expr V F T) Global) (place' : ℕ) (to' : Placed T) → form_of V F T (kind.Castable operand' place' to') ≡ castable_form (tree_of V F T operand'.value) place' to'
  unfolding clause_of form_of tree_of
  form_of-Castable operand' place' to' = kind_fold V F T (PlainClause V F T) (Form V F T) (Tree V F T) (clause_layer V F T) (kind_layer V F T) (expr_layer V F T) (kind.Castable operand' place' to') _ (kind.outs-Castable operand' place' to')

  pub form_of-Cast : (operand' : Box (Expr V F T) Global) (place' : ℕ) (to' : Placed T) → form_of V F T (kind.Cast operand' place' to') ≡ cast_form (tree_of V F T operand'.value) place' to'
  unfolding clause_of form_of tree_of
  form_of-Cast operand' place' to' = kind_fold V F T (PlainClause V F T) (Form V F T) (Tree V F T) (clause_layer V F T) (kind_layer V F T) (expr_layer V F T) (kind.Cast operand' place' to') _ (kind.outs-Cast operand' place' to')

  pub form_of-Sign : (signs' : Vec (SumOp × ℕ) Global) (operand' : Box (Expr V F T) Global) → form_of V F T (kind.Sign signs' operand') ≡ sign_form signs'.items (tree_of V F T operand'.value)
  unfolding clause_of form_of tree_of
  form_of-Sign signs' operand' = kind_fold V F T (PlainClause V F T) (Form V F T) (Tree V F T) (clause_layer V F T) (kind_layer V F T) (expr_layer V F T) (kind.Sign signs' operand') _ (kind.outs-Sign signs' operand')

  pub form_of-Map : (first' : Box (Expr V F T) Global) (rest' : Vec (Operand (Expr V F T)) Global) → form_of V F T (kind.Map first' rest') ≡ map_form (tree_of V F T first'.value) (operands_of V F T (map (operand_of V F T) rest'.items))
  unfolding clause_of form_of tree_of
  form_of-Map first' rest' = kind_fold V F T (PlainClause V F T) (Form V F T) (Tree V F T) (clause_layer V F T) (kind_layer V F T) (expr_layer V F T) (kind.Map first' rest') _ (kind.outs-Map first' rest') ∙ ap (λ xs. map_form (tree_of V F T first'.value) (operands_of V F T xs)) (map_same _ (operand_layer V F T) (operand_of V F T) (λ x. refl) rest'.items)

  pub form_of-Postfix : (primary' : Box (Expr V F T) Global) (steps' : Vec (Step V (Expr V F T)) Global) → form_of V F T (kind.Postfix primary' steps') ≡ postfix_form (tree_of V F T primary'.value) (steps_of V F T (map (step_of V F T) steps'.items))
  unfolding clause_of form_of tree_of
  form_of-Postfix primary' steps' = kind_fold V F T (PlainClause V F T) (Form V F T) (Tree V F T) (clause_layer V F T) (kind_layer V F T) (expr_layer V F T) (kind.Postfix primary' steps') _ (kind.outs-Postfix primary' steps') ∙ ap (λ xs. postfix_form (tree_of V F T primary'.value) (steps_of V F T xs)) (map_same _ (step_layer V F T) (step_of V F T) (step_same _ (λ place'. refl) (λ place' position'. refl) (λ place' test'. refl) (λ place' name''. refl) (λ place' value''. refl) (λ place' variable''. refl) (λ place' place''. refl) (λ place' value''. refl)) steps'.items)

  pub form_of-Int : (value' : ℤ) → form_of V F T (kind.Int value') ≡ int_form value'
  unfolding clause_of form_of tree_of
  form_of-Int value' = kind_fold V F T (PlainClause V F T) (Form V F T) (Tree V F T) (clause_layer V F T) (kind_layer V F T) (expr_layer V F T) (kind.Int value') _ (kind.outs-Int value')

  pub form_of-Dec : (value' : ℤ) → form_of V F T (kind.Dec value') ≡ dec_form value'
  unfolding clause_of form_of tree_of
  form_of-Dec value' = kind_fold V F T (PlainClause V F T) (Form V F T) (Tree V F T) (clause_layer V F T) (kind_layer V F T) (expr_layer V F T) (kind.Dec value') _ (kind.outs-Dec value')

  pub form_of-Text : (value' : List ℕ) → form_of V F T (kind.Text value') ≡ text_form value'
  unfolding clause_of form_of tree_of
  form_of-Text value' = kind_fold V F T (PlainClause V F T) (Form V F T) (Tree V F T) (clause_layer V F T) (kind_layer V F T) (expr_layer V F T) (kind.Text value') _ (kind.outs-Text value')

  pub form_of-True : form_of V F T kind.True ≡ true_form
  unfolding clause_of form_of tree_of
  form_of-True = kind_fold V F T (PlainClause V F T) (Form V F T) (Tree V F T) (clause_layer V F T) (kind_layer V F T) (expr_layer V F T) kind.True _ kind.outs-True

  pub form_of-False : form_of V F T kind.False ≡ false_form
  unfolding clause_of form_of tree_of
  form_of-False = kind_fold V F T (PlainClause V F T) (Form V F T) (Tree V F T) (clause_layer V F T) (kind_layer V F T) (expr_layer V F T) kind.False _ kind.outs-False

  pub form_of-Null : form_of V F T kind.Null ≡ null_form
  unfolding clause_of form_of tree_of
  form_of-Null = kind_fold V F T (PlainClause V F T) (Form V F T) (Tree V F T) (clause_layer V F T) (kind_layer V F T) (expr_layer V F T) kind.Null _ kind.outs-Null

  pub form_of-Var : (variable' : V) → form_of V F T (kind.Var variable') ≡ var_form variable'
  unfolding clause_of form_of tree_of
  form_of-Var variable' = kind_fold V F T (PlainClause V F T) (Form V F T) (Tree V F T) (clause_layer V F T) (kind_layer V F T) (expr_layer V F T) (kind.Var variable') _ (kind.outs-Var variable')

  pub form_of-Context : form_of V F T kind.Context ≡ context_form
  unfolding clause_of form_of tree_of
  form_of-Context = kind_fold V F T (PlainClause V F T) (Form V F T) (Tree V F T) (clause_layer V F T) (kind_layer V F T) (expr_layer V F T) kind.Context _ kind.outs-Context

  pub form_of-Paren : (content' : Option (Box (Expr V F T) Global)) → form_of V F T (kind.Paren content') ≡ paren_form (maybe_tree_of V F T content')
  unfolding clause_of form_of tree_of
  form_of-Paren None = kind_fold V F T (PlainClause V F T) (Form V F T) (Tree V F T) (clause_layer V F T) (kind_layer V F T) (expr_layer V F T) (kind.Paren None) _ (kind.outs-Paren None)
  form_of-Paren (Some e) = kind_fold V F T (PlainClause V F T) (Form V F T) (Tree V F T) (clause_layer V F T) (kind_layer V F T) (expr_layer V F T) (kind.Paren (Some e)) _ (kind.outs-Paren (Some e))

  pub form_of-Object : (pairs' : Vec (Pair (Expr V F T)) Global) → form_of V F T (kind.Object pairs') ≡ object_form (pairs_of V F T (map (pair_of V F T) pairs'.items))
  unfolding clause_of form_of tree_of
  form_of-Object pairs' = kind_fold V F T (PlainClause V F T) (Form V F T) (Tree V F T) (clause_layer V F T) (kind_layer V F T) (expr_layer V F T) (kind.Object pairs') _ (kind.outs-Object pairs') ∙ ap (λ xs. object_form (pairs_of V F T xs)) (map_same _ (pair_layer V F T) (pair_of V F T) (pair_same _ (λ name' place' value'. refl) (λ key' place' value'. refl)) pairs'.items)

  pub form_of-Merge : (content' : Option (Box (Expr V F T) Global)) → form_of V F T (kind.Merge content') ≡ merge_form (maybe_tree_of V F T content')
  unfolding clause_of form_of tree_of
  form_of-Merge None = kind_fold V F T (PlainClause V F T) (Form V F T) (Tree V F T) (clause_layer V F T) (kind_layer V F T) (expr_layer V F T) (kind.Merge None) _ (kind.outs-Merge None)
  form_of-Merge (Some e) = kind_fold V F T (PlainClause V F T) (Form V F T) (Tree V F T) (clause_layer V F T) (kind_layer V F T) (expr_layer V F T) (kind.Merge (Some e)) _ (kind.outs-Merge (Some e))

  pub form_of-Array : (content' : Option (Box (Expr V F T) Global)) → form_of V F T (kind.Array content') ≡ array_form (maybe_tree_of V F T content')
  unfolding clause_of form_of tree_of
  form_of-Array None = kind_fold V F T (PlainClause V F T) (Form V F T) (Tree V F T) (clause_layer V F T) (kind_layer V F T) (expr_layer V F T) (kind.Array None) _ (kind.outs-Array None)
  form_of-Array (Some e) = kind_fold V F T (PlainClause V F T) (Form V F T) (Tree V F T) (clause_layer V F T) (kind_layer V F T) (expr_layer V F T) (kind.Array (Some e)) _ (kind.outs-Array (Some e))

  pub form_of-Call : (function' : F) (arguments' : Vec (Expr V F T) Global) → form_of V F T (kind.Call function' arguments') ≡ call_form function' (trees_of V F T (map (tree_of V F T) arguments'.items))
  unfolding clause_of form_of tree_of
  form_of-Call function' arguments' = kind_fold V F T (PlainClause V F T) (Form V F T) (Tree V F T) (clause_layer V F T) (kind_layer V F T) (expr_layer V F T) (kind.Call function' arguments') _ (kind.outs-Call function' arguments')

  pub tree_of-out : (x : Expr V F T) → tree_of V F T x ≡ tree_node x.place (form_of V F T x.kind)
  unfolding clause_of form_of tree_of
  tree_of-out x = fold_out-Expr V F T (PlainClause V F T) (Form V F T) (Tree V F T) (clause_layer V F T) (kind_layer V F T) (expr_layer V F T) x

  pub tree_of-made : (place' : ℕ) (kind' : Kind V F T) → tree_of V F T (roll-Expr V F T (record { place = place'; kind = kind' })) ≡ tree_node place' (form_of V F T kind')
  unfolding clause_of form_of tree_of
  tree_of-made place' kind' = fold-roll-Expr V F T (PlainClause V F T) (Form V F T) (Tree V F T) (clause_layer V F T) (kind_layer V F T) (expr_layer V F T) (record { place = place'; kind = kind' })

pub ruleset layers = (clause_of-For, clause_of-Let, clause_of-Where, clause_of-Group, clause_of-Order, clause_of-Count, form_of-Comma, form_of-Flwor, form_of-Quant, form_of-Switch, form_of-Typeswitch, form_of-If, form_of-Try, form_of-Or, form_of-And, form_of-Not, form_of-Compare, form_of-Concat, form_of-Range, form_of-Sum, form_of-Product, form_of-Instance, form_of-Treat, form_of-Castable, form_of-Cast, form_of-Sign, form_of-Map, form_of-Postfix, form_of-Int, form_of-Dec, form_of-Text, form_of-True, form_of-False, form_of-Null, form_of-Var, form_of-Context, form_of-Paren, form_of-Object, form_of-Merge, form_of-Array, form_of-Call, tree_of-out, tree_of-made)
