-- The spine of some expressions.
use Rattle.std.proofs.Common.{◌≡◌, ℕ, pos, true, false, None, refl}
use Rattle.query_tree.specs.Plain.{Tree, tree_node, int_form, paren_form, array_form, comma_form, try_form, one_tree, more_operands, no_operands, operand_node, more_catches, no_catches, catch_node}
use Rattle.query_tree.specs.Spines.{spine, commas_apart}

abbrev E : Type 0
E = Tree ℕ ℕ ℕ

abbrev one : E
one = tree_node 0 (int_form (pos 1))

abbrev round : E → E
round e = tree_node 0 (paren_form (one_tree e))

abbrev comma : E → E → E
comma a b = tree_node 0 (comma_form a (more_operands (operand_node 0 b) no_operands))

-- 1
leaf : spine one ≡ 0
leaf = refl

-- (1, ((1, 1)))
chain : spine (round (comma one (round (round (comma one one))))) ≡ 5
chain = refl

-- [((1))]: the array is a leaf
array : spine (tree_node 0 (array_form (one_tree (round (round one))))) ≡ 0
array = refl

-- try { (1) } catch * { ((1)) }: the handler is not on the spine
tried : spine (tree_node 0 (try_form (round one) (more_catches (catch_node (record { place = 0; name = 0 }) None (round (round one))) no_catches))) ≡ 2
tried = refl

-- a comma in a comma, and one in parentheses
together : commas_apart (comma one (comma one one)) ≡ false
together = refl

apart : commas_apart (comma one (round (comma one one))) ≡ true
apart = refl
