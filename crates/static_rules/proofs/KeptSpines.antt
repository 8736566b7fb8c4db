-- A compiled expression has the spine of the expression that was read.
use Rattle.std.proofs.Common.{◌≡◌, ℕ, Bool, ◌&&◌, not, List, [], refl, ap, ◌∙◌}
use Rattle.query_tree.specs.declared.names.TypeName.{TypeName}
use Rattle.query_tree.specs.Binders
use Rattle.query_tree.specs.Plain as p
use Rattle.query_tree.specs.Plain.{Form, MaybeTree, PlainOperand, PlainOperands}
use Rattle.query_tree.specs.Spines.{spine, form_spine, content_spine, operand_spine, operands_spine, is_comma, is_comma_form, commas_apart, form_apart, content_apart, operand_apart, operands_apart}
use Rattle.query_tree.specs.NamedViews.{NamedTree}
use Rattle.static_rules.specs.Laws.{CompilingKeepsSpines}
use Rattle.static_rules.proofs.KeptDeclarations.{variables-kept, functions-kept}
use Rattle.static_rules.proofs.Nestings.{more, two}
use Rattle.static_rules.specs.Compiling.{Names, past, body_names, compiled, compiled_form, compiled_content, compiled_operand, compiled_operands}

both : {a b c d : Bool} → a ≡ b → c ≡ d → (a && c) ≡ (b && d)
both {a = a} {d = d} e f = ap (λ k. a && k) f ∙ ap (λ k. k && d) e

mutual
  tree-spine : (s : Names) (n : ℕ) (x : NamedTree) → spine (compiled s n x) ≡ spine x
  tree-spine s n (p.tree_node place kind) = form-spine s n kind

  form-spine : (s : Names) (n : ℕ) (x : Form (List ℕ) (List ℕ) TypeName) → form_spine (compiled_form s n x) ≡ form_spine x
  form-spine s n (p.comma_form first rest) = more (two (tree-spine s n first) (operands-spine s (past n (Binders.binders first)) rest))
  form-spine s n (p.try_form body _) = more (tree-spine s n body)
  form-spine s n (p.paren_form content) = more (content-spine s n content)
  form-spine s n _ = refl

  content-spine : (s : Names) (n : ℕ) (x : MaybeTree (List ℕ) (List ℕ) TypeName) → content_spine (compiled_content s n x) ≡ content_spine x
  content-spine s n p.no_tree = refl
  content-spine s n (p.one_tree t) = tree-spine s n t

  operand-spine : (s : Names) (n : ℕ) (x : PlainOperand (List ℕ) (List ℕ) TypeName) → operand_spine (compiled_operand s n x) ≡ operand_spine x
  operand-spine s n (p.operand_node place value) = tree-spine s n value

  operands-spine : (s : Names) (n : ℕ) (x : PlainOperands (List ℕ) (List ℕ) TypeName) → operands_spine (compiled_operands s n x) ≡ operands_spine x
  operands-spine s n p.no_operands = refl
  operands-spine s n (p.more_operands x xs) = two (operand-spine s n x) (operands-spine s (past n (Binders.operand_binders x)) xs)

form-comma : (s : Names) (n : ℕ) (x : Form (List ℕ) (List ℕ) TypeName) → is_comma_form (compiled_form s n x) ≡ is_comma_form x
form-comma s n (p.comma_form first rest) = refl
form-comma s n _ = refl

no-comma : (s : Names) (n : ℕ) (x : NamedTree) → not (is_comma (compiled s n x)) ≡ not (is_comma x)
no-comma s n (p.tree_node place kind) = ap not (form-comma s n kind)

mutual
  tree-apart : (s : Names) (n : ℕ) (x : NamedTree) → commas_apart (compiled s n x) ≡ commas_apart x
  tree-apart s n (p.tree_node place kind) = form-apart s n kind

  form-apart : (s : Names) (n : ℕ) (x : Form (List ℕ) (List ℕ) TypeName) → form_apart (compiled_form s n x) ≡ form_apart x
  form-apart s n (p.comma_form first rest) = both (both (no-comma s n first) (tree-apart s n first)) (operands-apart s (past n (Binders.binders first)) rest)
  form-apart s n (p.try_form body _) = tree-apart s n body
  form-apart s n (p.paren_form content) = content-apart s n content
  form-apart s n _ = refl

  content-apart : (s : Names) (n : ℕ) (x : MaybeTree (List ℕ) (List ℕ) TypeName) → content_apart (compiled_content s n x) ≡ content_apart x
  content-apart s n p.no_tree = refl
  content-apart s n (p.one_tree t) = tree-apart s n t

  operand-apart : (s : Names) (n : ℕ) (x : PlainOperand (List ℕ) (List ℕ) TypeName) → operand_apart (compiled_operand s n x) ≡ operand_apart x
  operand-apart s n (p.operand_node place value) = both (no-comma s n value) (tree-apart s n value)

  operands-apart : (s : Names) (n : ℕ) (x : PlainOperands (List ℕ) (List ℕ) TypeName) → operands_apart (compiled_operands s n x) ≡ operands_apart x
  operands-apart s n p.no_operands = refl
  operands-apart s n (p.more_operands x xs) = both (operand-apart s n x) (operands-apart s (past n (Binders.operand_binders x)) xs)

pub keeps_spines : CompilingKeepsSpines
keeps_spines = record {
  variables = λ q. variables-kept spine spine tree-spine [] 0 q.variables;
  functions = λ q. functions-kept spine spine tree-spine (body_names q) 0 q.functions;
  body = λ q. tree-spine (body_names q) 0 q.body;
  variables_apart = λ q. variables-kept commas_apart commas_apart tree-apart [] 0 q.variables;
  functions_apart = λ q. functions-kept commas_apart commas_apart tree-apart (body_names q) 0 q.functions;
  body_apart = λ q. tree-apart (body_names q) 0 q.body;
}
