-- The spine of an expression. The expression itself is on it; and of parentheses, a comma or a
-- `try` that is on it, so are the content, each operand and the tried body. Every other
-- expression on it is a leaf.
use Rattle.std.specs.Prelude.{ℕ, ◌+◌, Bool, true, false, ◌&&◌, not, max}
use Rattle.query_tree.specs.Plain as p
use Rattle.query_tree.specs.Plain.{Tree, Form, MaybeTree, PlainOperand, PlainOperands}

-- how many parentheses, commas and `try`s stand one in another on the spine
abbrev mutual
  pub spine : {V F T : Type 0} → Tree V F T → ℕ
  spine (p.tree_node place kind) = form_spine kind

  pub form_spine : {V F T : Type 0} → Form V F T → ℕ
  form_spine (p.comma_form first rest) = max (spine first) (operands_spine rest) + 1
  form_spine (p.try_form body _) = spine body + 1
  form_spine (p.paren_form content) = content_spine content + 1
  form_spine _ = 0

  pub content_spine : {V F T : Type 0} → MaybeTree V F T → ℕ
  content_spine p.no_tree = 0
  content_spine (p.one_tree t) = spine t

  pub operand_spine : {V F T : Type 0} → PlainOperand V F T → ℕ
  operand_spine (p.operand_node place value) = spine value

  pub operands_spine : {V F T : Type 0} → PlainOperands V F T → ℕ
  operands_spine p.no_operands = 0
  operands_spine (p.more_operands o os) = max (operand_spine o) (operands_spine os)

abbrev pub is_comma_form : {V F T : Type 0} → Form V F T → Bool
is_comma_form (p.comma_form first rest) = true
is_comma_form _ = false

abbrev pub is_comma : {V F T : Type 0} → Tree V F T → Bool
is_comma (p.tree_node place kind) = is_comma_form kind

-- whether no operand of a comma on the spine is itself a comma
abbrev mutual
  pub commas_apart : {V F T : Type 0} → Tree V F T → Bool
  commas_apart (p.tree_node place kind) = form_apart kind

  pub form_apart : {V F T : Type 0} → Form V F T → Bool
  form_apart (p.comma_form first rest) =
      not (is_comma first) && commas_apart first && operands_apart rest
  form_apart (p.try_form body _) = commas_apart body
  form_apart (p.paren_form content) = content_apart content
  form_apart _ = true

  pub content_apart : {V F T : Type 0} → MaybeTree V F T → Bool
  content_apart p.no_tree = true
  content_apart (p.one_tree t) = commas_apart t

  pub operand_apart : {V F T : Type 0} → PlainOperand V F T → Bool
  operand_apart (p.operand_node place value) = not (is_comma value) && commas_apart value

  pub operands_apart : {V F T : Type 0} → PlainOperands V F T → Bool
  operands_apart p.no_operands = true
  operands_apart (p.more_operands o os) = operand_apart o && operands_apart os
