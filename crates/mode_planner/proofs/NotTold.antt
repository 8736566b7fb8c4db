-- Kinds of expressions that are not told apart.
use Rattle.std.proofs.Common.{◌≡◌, ℕ, None, Option, [], refl, sym, ap, ◌∙◌}
use Rattle.std.specs.Prelude.{Vec, false}
use Rattle.std.specs.declared.alloc.Global.{Global}
use Rattle.std.specs.declared.boxed.Box.{Box}
use Rattle.seq_types.specs.declared.types.SeqType.{SeqType}
use Rattle.query_tree.specs.declared.bound.Slot.{Slot}
use Rattle.query_tree.specs.declared.bound.Target.{Target}
use Rattle.query_tree.specs.declared.clause.Clause.{Clause}
use Rattle.query_tree.specs.declared.clause.Clause.TheOpen as node
use Rattle.query_tree.specs.declared.expr.Expr.{Expr}
use Rattle.query_tree.specs.declared.expr.Kind.{Kind, Kind-F, out-Kind, roll-Kind, roll-out-Kind}
use Rattle.query_tree.specs.declared.expr.Kind.TheVariants as kind
use Rattle.query_tree.specs.declared.part.Operand.{Operand}
use Rattle.query_tree.specs.declared.part.Catch.{Catch}
use Rattle.query_tree.specs.Plain.{PlainClause, Form, clause_layer, kind_layer, expr_layer, form_of, clause_of, tree_of}
use Rattle.query_tree.specs.Bound.{BoundTree}
use Rattle.query_tree.specs.Plain as p
use Rattle.query_tree.specs.BoundViews.{bound_tree, bound_form}
use Rattle.query_tree.proofs.Layers.{tree_of-out}
use Rattle.query_tree.proofs.Folds.{kind_fold}
use Rattle.mode_planner.specs.declared.plan.End.{End}
use Rattle.mode_planner.specs.declared.plan.Label.TheVariants as label
use Rattle.mode_planner.specs.Spine.{passes, form_onward}
use Rattle.mode_planner.specs.Drivers.{form_driver}
use Rattle.mode_planner.specs.Plans.{driven_form, form_plan, whole, driven_plan}

abbrev BoundExpr : Type 0
BoundExpr = Expr Slot Target SeqType

abbrev BoundKind : Type 0
BoundKind = Kind Slot Target SeqType

abbrev Layer : Type 0
Layer = Kind-F Slot Target SeqType (Clause Slot Target SeqType) BoundKind BoundExpr

abbrev NotCall : BoundKind → Type 0
NotCall k = (function : Target) (arguments : Vec BoundExpr Global) → k ≡ kind.Call function arguments → ⊥

abbrev NotFlwor : BoundKind → Type 0
NotFlwor k = (clauses : Vec (Clause Slot Target SeqType) Global) (place : ℕ) (result : Box BoundExpr Global) → k ≡ kind.Flwor clauses place result → ⊥

abbrev NotComma : BoundKind → Type 0
NotComma k = (first : Box BoundExpr Global) (rest : Vec (Operand BoundExpr) Global) → k ≡ kind.Comma first rest → ⊥

abbrev NotParen : BoundKind → Type 0
NotParen k = (content : Option (Box BoundExpr Global)) → k ≡ kind.Paren content → ⊥

abbrev NotTry : BoundKind → Type 0
NotTry k = (body : Box BoundExpr Global) (catches : Vec (Catch Slot BoundExpr) Global) → k ≡ kind.Try body catches → ⊥

-- what a kind is, by its layer
rolled : (k : BoundKind) (o : Layer) → out-Kind Slot Target SeqType k ≡ o → k ≡ roll-Kind Slot Target SeqType o
rolled k o h = sym (roll-out-Kind Slot Target SeqType k) ∙ ap (roll-Kind Slot Target SeqType) h

pub no_call : (k : BoundKind) → NotCall k → (place : ℕ) → form_driver place (bound_form k) ≡ None
unfolding form_of clause_of tree_of
no_call k c place = by (out-Kind Slot Target SeqType k) refl
  where
    by : (o : Layer) → out-Kind Slot Target SeqType k ≡ o → form_driver place (form_of Slot Target SeqType k) ≡ None
    by (node.Call f xs) h = absurd (c f xs (rolled k _ h ∙ kind.rolls-Call f xs))
    by o h = ap (form_driver place) (kind_fold Slot Target SeqType (PlainClause Slot Target SeqType) (Form Slot Target SeqType) BoundTree (clause_layer Slot Target SeqType) (kind_layer Slot Target SeqType) (expr_layer Slot Target SeqType) k o h)

pub not_driven : (k : BoundKind) → NotCall k → NotFlwor k → (end : End) (place : ℕ) → driven_form end place (bound_form k) ≡ None
unfolding form_of clause_of tree_of
not_driven k c f end place = by (out-Kind Slot Target SeqType k) refl
  where
    by : (o : Layer) → out-Kind Slot Target SeqType k ≡ o → driven_form end place (form_of Slot Target SeqType k) ≡ None
    by (node.Call g xs) h = absurd (c g xs (rolled k _ h ∙ kind.rolls-Call g xs))
    by (node.Flwor cs at e) h = absurd (f cs at e (rolled k _ h ∙ kind.rolls-Flwor cs at e))
    by o h = ap (driven_form end place) (kind_fold Slot Target SeqType (PlainClause Slot Target SeqType) (Form Slot Target SeqType) BoundTree (clause_layer Slot Target SeqType) (kind_layer Slot Target SeqType) (expr_layer Slot Target SeqType) k o h)

pub not_planned : (k : BoundKind) → NotCall k → NotFlwor k → (t : BoundTree) (place : ℕ) → form_plan t place (bound_form k) ≡ whole t place label.Expression
unfolding form_of clause_of tree_of
not_planned k c f t place = by (out-Kind Slot Target SeqType k) refl
  where
    by : (o : Layer) → out-Kind Slot Target SeqType k ≡ o → form_plan t place (form_of Slot Target SeqType k) ≡ whole t place label.Expression
    by (node.Call g xs) h = absurd (c g xs (rolled k _ h ∙ kind.rolls-Call g xs))
    by (node.Flwor cs at e) h = absurd (f cs at e (rolled k _ h ∙ kind.rolls-Flwor cs at e))
    by o h = ap (form_plan t place) (kind_fold Slot Target SeqType (PlainClause Slot Target SeqType) (Form Slot Target SeqType) BoundTree (clause_layer Slot Target SeqType) (kind_layer Slot Target SeqType) (expr_layer Slot Target SeqType) k o h)

pub not_passed : (k : BoundKind) → NotComma k → NotParen k → NotTry k → passes (bound_form k) ≡ false
unfolding form_of clause_of tree_of
not_passed k c f t = by (out-Kind Slot Target SeqType k) refl
  where
    by : (o : Layer) → out-Kind Slot Target SeqType k ≡ o → passes (form_of Slot Target SeqType k) ≡ false
    by (node.Comma e es) h = absurd (c e es (rolled k _ h ∙ kind.rolls-Comma e es))
    by (node.Paren e) h = absurd (f e (rolled k _ h ∙ kind.rolls-Paren e))
    by (node.Try e es) h = absurd (t e es (rolled k _ h ∙ kind.rolls-Try e es))
    by o h = ap passes (kind_fold Slot Target SeqType (PlainClause Slot Target SeqType) (Form Slot Target SeqType) BoundTree (clause_layer Slot Target SeqType) (kind_layer Slot Target SeqType) (expr_layer Slot Target SeqType) k o h)

pub nothing_onward : (k : BoundKind) → NotComma k → NotParen k → NotTry k → form_onward (bound_form k) ≡ []
unfolding form_of clause_of tree_of
nothing_onward k c f t = by (out-Kind Slot Target SeqType k) refl
  where
    by : (o : Layer) → out-Kind Slot Target SeqType k ≡ o → form_onward (form_of Slot Target SeqType k) ≡ []
    by (node.Comma e es) h = absurd (c e es (rolled k _ h ∙ kind.rolls-Comma e es))
    by (node.Paren e) h = absurd (f e (rolled k _ h ∙ kind.rolls-Paren e))
    by (node.Try e es) h = absurd (t e es (rolled k _ h ∙ kind.rolls-Try e es))
    by o h = ap form_onward (kind_fold Slot Target SeqType (PlainClause Slot Target SeqType) (Form Slot Target SeqType) BoundTree (clause_layer Slot Target SeqType) (kind_layer Slot Target SeqType) (expr_layer Slot Target SeqType) k o h)

pub planned_whole : (e : BoundExpr) → NotCall e.kind → NotFlwor e.kind → driven_plan (bound_tree e) ≡ whole (bound_tree e) e.place label.Expression
planned_whole e c f =
    let node = p.tree_node e.place (bound_form e.kind) in
    let is : bound_tree e ≡ node = tree_of-out Slot Target SeqType e in
    ap driven_plan is ∙ not_planned e.kind c f node e.place ∙ ap (λ t. whole t e.place label.Expression) (sym is)
