-- The nesting of some expressions.
use Rattle.std.proofs.Common.{◌≡◌, ℕ, pos, refl}
use Rattle.query_tree.specs.declared.operator.SumOp.TheVariants.{Plus}
use Rattle.query_tree.specs.Plain.{Tree, tree_node, int_form, sum_form, paren_form, call_form, array_form, postfix_form, no_tree, one_tree, more_trees, no_trees, more_terms, no_terms, term_node, more_steps, no_steps, filter_step, member_step, members_step, field_step, computed_lookup}
use Rattle.query_tree.specs.Nesting.{nesting}

abbrev E : Type 0
E = Tree ℕ ℕ ℕ

abbrev one : E
one = tree_node 0 (int_form (pos 1))

abbrev round : E → E
round e = tree_node 0 (paren_form (one_tree e))

-- 1
number : nesting one ≡ 0
number = refl

-- ((1)) + (1)
sum : nesting (tree_node 0 (sum_form (round (round one)) (more_terms (term_node Plus 0 (round one)) no_terms))) ≡ 2
sum = refl

-- f(1)[1][[1]][]: the call and the steps stand beside one another
steps : nesting (tree_node 0 (postfix_form (tree_node 0 (call_form 0 (more_trees one no_trees))) (more_steps (filter_step 0 one) (more_steps (member_step 0 one) (more_steps (members_step 0) no_steps))))) ≡ 1
steps = refl

-- [].((1))
lookup : nesting (tree_node 0 (postfix_form (tree_node 0 (array_form no_tree)) (more_steps (field_step 0 (computed_lookup (round one))) no_steps))) ≡ 2
lookup = refl
