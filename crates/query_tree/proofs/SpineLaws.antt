-- What bounds the spine of a tree.
use Rattle.std.proofs.Common.{◌≡◌, ℕ, ◌+◌, ◌*◌, ◌≤◌, Bool, true, false, ◌&&◌, not, refl, arith}
use Rattle.std.proofs.lemmas.Bool.{and_parts}
use Rattle.query_tree.specs.Plain as p
use Rattle.query_tree.specs.Plain.{Tree, Form, MaybeTree, PlainOperand, PlainOperands}
use Rattle.query_tree.specs.Nesting.{nesting, form_nesting, content_nesting, operand_nesting, operands_nesting}
use Rattle.query_tree.specs.Spines.{spine, form_spine, content_spine, operand_spine, operands_spine, is_comma, is_comma_form, commas_apart, form_apart, content_apart, operand_apart, operands_apart}
use Rattle.query_tree.specs.Laws.{NestingBoundsSpines}

-- a comma counts one more than the forms that nest
abbrev own : Bool → ℕ
own true = 1
own false = 0

at_most_one : (b : Bool) → own b ≤ 1
at_most_one true = omega arith
at_most_one false = omega arith

none_of : (b : Bool) → not b ≡ true → own b ≡ 0
none_of true e = absurd (cc)
none_of false e = refl

module _ {V F T : Type 0} where
  mutual
    tree-spine : (t : Tree V F T) → commas_apart t ≡ true → spine t ≤ 2 * nesting t + own (is_comma t)
    tree-spine (p.tree_node place kind) h = form-spine kind h

    form-spine : (k : Form V F T) → form_apart k ≡ true → form_spine k ≤ 2 * form_nesting k + own (is_comma_form k)
    form-spine (p.comma_form first rest) h =
        let parts = and_parts (not (is_comma first) && commas_apart first) (operands_apart rest) h in
        let one = and_parts (not (is_comma first)) (commas_apart first) parts.0 in
        omega (arith, none_of (is_comma first) one.0, tree-spine first one.1, operands-spine rest parts.1)
    form-spine (p.try_form body _) h = omega (arith, at_most_one (is_comma body), tree-spine body h)
    form-spine (p.paren_form content) h = omega (arith, content-spine content h)
    form-spine _ h = omega arith

    content-spine : (c : MaybeTree V F T) → content_apart c ≡ true → content_spine c ≤ 2 * content_nesting c + 1
    content-spine p.no_tree h = omega arith
    content-spine (p.one_tree t) h = omega (arith, at_most_one (is_comma t), tree-spine t h)

    operand-spine : (o : PlainOperand V F T) → operand_apart o ≡ true → operand_spine o ≤ 2 * operand_nesting o
    operand-spine (p.operand_node place value) h =
        let parts = and_parts (not (is_comma value)) (commas_apart value) h in
        omega (arith, none_of (is_comma value) parts.0, tree-spine value parts.1)

    operands-spine : (os : PlainOperands V F T) → operands_apart os ≡ true → operands_spine os ≤ 2 * operands_nesting os
    operands-spine p.no_operands h = omega arith
    operands-spine (p.more_operands o os) h =
        let parts = and_parts (operand_apart o) (operands_apart os) h in
        omega (arith, operand-spine o parts.0, operands-spine os parts.1)

  tree-bounded : (t : Tree V F T) → commas_apart t ≡ true → spine t ≤ 2 * nesting t + 1
  tree-bounded t h = omega (arith, at_most_one (is_comma t), tree-spine t h)

pub bounds_spines : NestingBoundsSpines
bounds_spines = record { of_read = tree-bounded; of_compiled = tree-bounded }
