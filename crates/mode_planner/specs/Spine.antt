-- The spine of a body. The body stands on it. Parentheses, a comma and a `try` on it are passed
-- through: what stands in the parentheses, each operand, and what is tried stand on it too. Each
-- other expression on it is a leaf.
use Rattle.std.specs.Prelude.{ℕ, Bool, true, false, List, [], ◌∷◌, ◌++◌}
use Rattle.seq_types.specs.declared.types.SeqType.{SeqType}
use Rattle.query_tree.specs.declared.bound.Slot.{Slot}
use Rattle.query_tree.specs.declared.bound.Target.{Target}
use Rattle.query_tree.specs.Plain as p
use Rattle.query_tree.specs.Plain.{Form, MaybeTree, PlainOperand, PlainOperands}
use Rattle.query_tree.specs.Bound.{BoundTree}
use Rattle.query_tree.specs.Subtrees.{operands_children, content_children, catches_children}

abbrev pub passes : Form Slot Target SeqType → Bool
passes (p.comma_form first rest) = true
passes (p.paren_form content) = true
passes (p.try_form body _) = true
passes _ = false

abbrev pub is_passed : BoundTree → Bool
is_passed (p.tree_node place kind) = passes kind

-- what stands on the spine in an expression that is passed through
abbrev pub form_onward : Form Slot Target SeqType → List BoundTree
form_onward (p.comma_form first rest) = first ∷ operands_children rest
form_onward (p.paren_form content) = content_children content
form_onward (p.try_form body _) = body ∷ []
form_onward _ = []

abbrev pub onward : BoundTree → List BoundTree
onward (p.tree_node place kind) = form_onward kind

-- the leaves, in text order
abbrev mutual
  pub leaves : BoundTree → List BoundTree
  leaves (p.tree_node place kind) = form_leaves place kind

  pub form_leaves : ℕ → Form Slot Target SeqType → List BoundTree
  form_leaves place (p.comma_form first rest) = leaves first ++ operands_leaves rest
  form_leaves place (p.paren_form content) = content_leaves content
  form_leaves place (p.try_form body _) = leaves body
  form_leaves place kind = p.tree_node place kind ∷ []

  pub content_leaves : MaybeTree Slot Target SeqType → List BoundTree
  content_leaves p.no_tree = []
  content_leaves (p.one_tree t) = leaves t

  pub operand_leaves : PlainOperand Slot Target SeqType → List BoundTree
  operand_leaves (p.operand_node place value) = leaves value

  pub operands_leaves : PlainOperands Slot Target SeqType → List BoundTree
  operands_leaves p.no_operands = []
  operands_leaves (p.more_operands o os) = operand_leaves o ++ operands_leaves os

-- what is passed through
abbrev mutual
  pub passed : BoundTree → List BoundTree
  passed (p.tree_node place kind) = form_passed place kind

  pub form_passed : ℕ → Form Slot Target SeqType → List BoundTree
  form_passed place (p.comma_form first rest) =
      p.tree_node place (p.comma_form first rest) ∷ passed first ++ operands_passed rest
  form_passed place (p.paren_form content) =
      p.tree_node place (p.paren_form content) ∷ content_passed content
  form_passed place (p.try_form body catches) =
      p.tree_node place (p.try_form body catches) ∷ passed body
  form_passed place _ = []

  pub content_passed : MaybeTree Slot Target SeqType → List BoundTree
  content_passed p.no_tree = []
  content_passed (p.one_tree t) = passed t

  pub operand_passed : PlainOperand Slot Target SeqType → List BoundTree
  operand_passed (p.operand_node place value) = passed value

  pub operands_passed : PlainOperands Slot Target SeqType → List BoundTree
  operands_passed p.no_operands = []
  operands_passed (p.more_operands o os) = operand_passed o ++ operands_passed os

-- the handlers of each `try` that is passed through; they do not stand on the spine
abbrev mutual
  pub handlers : BoundTree → List BoundTree
  handlers (p.tree_node place kind) = form_handlers kind

  pub form_handlers : Form Slot Target SeqType → List BoundTree
  form_handlers (p.comma_form first rest) = handlers first ++ operands_handlers rest
  form_handlers (p.paren_form content) = content_handlers content
  form_handlers (p.try_form body catches) = handlers body ++ catches_children catches
  form_handlers _ = []

  pub content_handlers : MaybeTree Slot Target SeqType → List BoundTree
  content_handlers p.no_tree = []
  content_handlers (p.one_tree t) = handlers t

  pub operand_handlers : PlainOperand Slot Target SeqType → List BoundTree
  operand_handlers (p.operand_node place value) = handlers value

  pub operands_handlers : PlainOperands Slot Target SeqType → List BoundTree
  operands_handlers p.no_operands = []
  operands_handlers (p.more_operands o os) = operand_handlers o ++ operands_handlers os
