-- An expression of another kind is no string that is spelled out.
use Rattle.std.proofs.Common.{◌≡◌, ℕ, List, None, refl, sym, ap, ◌∙◌}
use Rattle.query_tree.specs.declared.clause.Clause.{Clause}
use Rattle.query_tree.specs.declared.clause.Clause.TheOpen as node
use Rattle.query_tree.specs.declared.expr.Expr.{Expr}
use Rattle.query_tree.specs.declared.expr.Kind.{Kind, Kind-F, out-Kind, roll-Kind, roll-out-Kind}
use Rattle.query_tree.specs.declared.expr.Kind.TheVariants as kind
use Rattle.query_tree.specs.declared.names.TypeName.{TypeName}
use Rattle.query_tree.specs.Plain.{PlainClause, Form, Tree, clause_layer, kind_layer, expr_layer, form_of, clause_of, tree_of}
use Rattle.query_tree.proofs.Folds.{kind_fold}
use Rattle.static_rules.specs.Calls.{text_in}

pub other_kind : (k : Kind (List ℕ) (List ℕ) TypeName) → ((x : List ℕ) → k ≡ kind.Text x → ⊥) → text_in (form_of (List ℕ) (List ℕ) TypeName k) ≡ None
unfolding form_of clause_of tree_of
other_kind k not_text = by (out-Kind (List ℕ) (List ℕ) TypeName k) refl
  where
    by : (o : Kind-F (List ℕ) (List ℕ) TypeName (Clause (List ℕ) (List ℕ) TypeName) (Kind (List ℕ) (List ℕ) TypeName) (Expr (List ℕ) (List ℕ) TypeName)) → out-Kind (List ℕ) (List ℕ) TypeName k ≡ o → text_in (form_of (List ℕ) (List ℕ) TypeName k) ≡ None
    by (node.Text x) h = absurd (not_text x (sym (roll-out-Kind (List ℕ) (List ℕ) TypeName k) ∙ ap (roll-Kind (List ℕ) (List ℕ) TypeName) h ∙ kind.rolls-Text x))
    by o h = ap text_in (kind_fold (List ℕ) (List ℕ) TypeName (PlainClause (List ℕ) (List ℕ) TypeName) (Form (List ℕ) (List ℕ) TypeName) (Tree (List ℕ) (List ℕ) TypeName) (clause_layer (List ℕ) (List ℕ) TypeName) (kind_layer (List ℕ) (List ℕ) TypeName) (expr_layer (List ℕ) (List ℕ) TypeName) k o h)
