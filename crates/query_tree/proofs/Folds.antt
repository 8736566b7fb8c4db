-- Written by tools/plain_trees.py from the types of src/. Change those, and run it again.
-- A fold at a node that is known, for any steps. For other crates too.
use Rattle.std.proofs.Common.{◌≡◌, ap, ◌∙◌}
use Rattle.query_tree.specs.declared.clause.Clause.{Clause, Clause-F, fold-Clause, map-Clause, out-Clause, fold_out-Clause}
use Rattle.query_tree.specs.declared.expr.Kind.{Kind, Kind-F, fold-Kind, map-Kind, out-Kind, fold_out-Kind}
use Rattle.query_tree.specs.declared.expr.Expr.{Expr, Expr-F, fold-Expr}

module _ (V F T A0 A1 A2 : Type 0) (step0 : Clause-F V F T A0 A1 A2 → A0) (step1 : Kind-F V F T A0 A1 A2 → A1) (step2 : Expr-F V F T A0 A1 A2 → A2) where
  pub clause_fold : (k : Clause V F T) (o : Clause-F V F T (Clause V F T) (Kind V F T) (Expr V F T)) → out-Clause V F T k ≡ o → fold-Clause V F T A0 A1 A2 step0 step1 step2 k ≡ step0 (map-Clause V F T (Clause V F T) (Kind V F T) (Expr V F T) A0 A1 A2 (fold-Clause V F T A0 A1 A2 step0 step1 step2) (fold-Kind V F T A0 A1 A2 step0 step1 step2) (fold-Expr V F T A0 A1 A2 step0 step1 step2) o)
  clause_fold k o h = fold_out-Clause V F T A0 A1 A2 step0 step1 step2 k ∙ ap (λ (x : Clause-F V F T (Clause V F T) (Kind V F T) (Expr V F T)). step0 (map-Clause V F T (Clause V F T) (Kind V F T) (Expr V F T) A0 A1 A2 (fold-Clause V F T A0 A1 A2 step0 step1 step2) (fold-Kind V F T A0 A1 A2 step0 step1 step2) (fold-Expr V F T A0 A1 A2 step0 step1 step2) x)) h

  pub kind_fold : (k : Kind V F T) (o : Kind-F V F T (Clause V F T) (Kind V F T) (Expr V F T)) → out-Kind V F T k ≡ o → fold-Kind V F T A0 A1 A2 step0 step1 step2 k ≡ step1 (map-Kind V F T (Clause V F T) (Kind V F T) (Expr V F T) A0 A1 A2 (fold-Clause V F T A0 A1 A2 step0 step1 step2) (fold-Kind V F T A0 A1 A2 step0 step1 step2) (fold-Expr V F T A0 A1 A2 step0 step1 step2) o)
  kind_fold k o h = fold_out-Kind V F T A0 A1 A2 step0 step1 step2 k ∙ ap (λ (x : Kind-F V F T (Clause V F T) (Kind V F T) (Expr V F T)). step1 (map-Kind V F T (Clause V F T) (Kind V F T) (Expr V F T) A0 A1 A2 (fold-Clause V F T A0 A1 A2 step0 step1 step2) (fold-Kind V F T A0 A1 A2 step0 step1 step2) (fold-Expr V F T A0 A1 A2 step0 step1 step2) x)) h
