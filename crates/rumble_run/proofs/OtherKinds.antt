-- Kinds of expressions that the walk does not tell apart.
use Rattle.std.proofs.Common.{◌≡◌, ℕ, List, [], ◌∷◌, length, Option, None, refl, sym, ap, ◌∙◌}
use Rattle.std.specs.Prelude.{Vec, false, ◌==◌}
use Rattle.std.specs.declared.alloc.Global.{Global}
use Rattle.std.specs.declared.boxed.Box.{Box}
use Rattle.seq_types.specs.declared.types.SeqType.{SeqType}
use Rattle.query_tree.specs.declared.bound.Slot.{Slot}
use Rattle.query_tree.specs.declared.bound.Target.{Target}
use Rattle.query_tree.specs.declared.clause.Clause.{Clause}
use Rattle.query_tree.specs.declared.clause.Clause.TheOpen as node
use Rattle.query_tree.specs.declared.expr.Expr.{Expr}
use Rattle.query_tree.specs.declared.expr.Kind.{Kind, Kind-F, out-Kind, roll-Kind, roll-out-Kind}
use Rattle.query_tree.specs.declared.expr.Kind.TheVariants as kind
use Rattle.query_tree.specs.declared.part.Operand.{Operand}
use Rattle.query_tree.specs.declared.part.Catch.{Catch}
use Rattle.query_tree.specs.Plain.{PlainClause, Form, clause_layer, kind_layer, expr_layer, form_of, clause_of, tree_of}
use Rattle.query_tree.specs.Bound.{BoundTree}
use Rattle.query_tree.specs.BoundViews.{bound_tree, bound_form, bound_tree_list}
use Rattle.query_tree.proofs.Layers.{tree_of-out}
use Rattle.query_tree.proofs.Folds.{kind_fold}
use Rattle.mode_planner.specs.Spine.{passes, is_passed}
use Rattle.rumble_run.specs.inside.Driving.{form_driving, driving_of, form_over, over_of, only_of}

abbrev BoundExpr : Type 0
BoundExpr = Expr Slot Target SeqType

abbrev BoundKind : Type 0
BoundKind = Kind Slot Target SeqType

abbrev Layer : Type 0
Layer = Kind-F Slot Target SeqType (Clause Slot Target SeqType) BoundKind BoundExpr

abbrev NotComma : BoundKind → Type 0
NotComma k = (first : Box BoundExpr Global) (rest : Vec (Operand BoundExpr) Global) → k ≡ kind.Comma first rest → ⊥

abbrev NotParen : BoundKind → Type 0
NotParen k = (content : Option (Box BoundExpr Global)) → k ≡ kind.Paren content → ⊥

abbrev NotTry : BoundKind → Type 0
NotTry k = (body : Box BoundExpr Global) (catches : Vec (Catch Slot BoundExpr) Global) → k ≡ kind.Try body catches → ⊥

rolled : (k : BoundKind) (o : Layer) → out-Kind Slot Target SeqType k ≡ o → k ≡ roll-Kind Slot Target SeqType o
rolled k o h = sym (roll-out-Kind Slot Target SeqType k) ∙ ap (roll-Kind Slot Target SeqType) h

not_passed : (k : BoundKind) → NotComma k → NotParen k → NotTry k → passes (bound_form k) ≡ false
unfolding form_of clause_of tree_of
not_passed k c f t = by (out-Kind Slot Target SeqType k) refl
  where
    by : (o : Layer) → out-Kind Slot Target SeqType k ≡ o → passes (form_of Slot Target SeqType k) ≡ false
    by (node.Comma e es) h = absurd (c e es (rolled k _ h ∙ kind.rolls-Comma e es))
    by (node.Paren e) h = absurd (f e (rolled k _ h ∙ kind.rolls-Paren e))
    by (node.Try e es) h = absurd (t e es (rolled k _ h ∙ kind.rolls-Try e es))
    by o h = ap passes (kind_fold Slot Target SeqType (PlainClause Slot Target SeqType) (Form Slot Target SeqType) BoundTree (clause_layer Slot Target SeqType) (kind_layer Slot Target SeqType) (expr_layer Slot Target SeqType) k o h)

pub is_leaf : (e : BoundExpr) → NotComma e.kind → NotParen e.kind → NotTry e.kind → is_passed (bound_tree e) ≡ false
is_leaf e c f t = ap is_passed (tree_of-out Slot Target SeqType e) ∙ not_passed e.kind c f t

-- ---- what nothing drives

abbrev NotCall : BoundKind → Type 0
NotCall k = (function : Target) (arguments : Vec BoundExpr Global) → k ≡ kind.Call function arguments → ⊥

abbrev NotFlwor : BoundKind → Type 0
NotFlwor k = (clauses : Vec (Clause Slot Target SeqType) Global) (place : ℕ) (result : Box BoundExpr Global) → k ≡ kind.Flwor clauses place result → ⊥

none_driving : (k : BoundKind) → NotFlwor k → NotCall k → form_driving (bound_form k) ≡ None
unfolding form_of clause_of tree_of
none_driving k f c = by (out-Kind Slot Target SeqType k) refl
  where
    by : (o : Layer) → out-Kind Slot Target SeqType k ≡ o → form_driving (form_of Slot Target SeqType k) ≡ None
    by (node.Call g xs) h = absurd (c g xs (rolled k _ h ∙ kind.rolls-Call g xs))
    by (node.Flwor cs at e) h = absurd (f cs at e (rolled k _ h ∙ kind.rolls-Flwor cs at e))
    by o h = ap form_driving (kind_fold Slot Target SeqType (PlainClause Slot Target SeqType) (Form Slot Target SeqType) BoundTree (clause_layer Slot Target SeqType) (kind_layer Slot Target SeqType) (expr_layer Slot Target SeqType) k o h)

pub not_driving : (e : BoundExpr) → NotFlwor e.kind → NotCall e.kind → None ≡ driving_of (bound_tree e)
not_driving e f c = sym (ap driving_of (tree_of-out Slot Target SeqType e) ∙ none_driving e.kind f c)

none_over : (k : BoundKind) → NotCall k → form_over (bound_form k) ≡ None
unfolding form_of clause_of tree_of
none_over k c = by (out-Kind Slot Target SeqType k) refl
  where
    by : (o : Layer) → out-Kind Slot Target SeqType k ≡ o → form_over (form_of Slot Target SeqType k) ≡ None
    by (node.Call g xs) h = absurd (c g xs (rolled k _ h ∙ kind.rolls-Call g xs))
    by o h = ap form_over (kind_fold Slot Target SeqType (PlainClause Slot Target SeqType) (Form Slot Target SeqType) BoundTree (clause_layer Slot Target SeqType) (kind_layer Slot Target SeqType) (expr_layer Slot Target SeqType) k o h)

pub not_over : (e : BoundExpr) → NotCall e.kind → None ≡ over_of (bound_tree e)
not_over e c = sym (ap over_of (tree_of-out Slot Target SeqType e) ∙ none_over e.kind c)

-- of several arguments none is the only one
pub not_only : (e : BoundExpr) (es : List BoundExpr) → false ≡ (length es == 0) → only_of (bound_tree_list (e ∷ es)) ≡ None
not_only e [] h = absurd (cc)
not_only e (x ∷ es) h = refl
