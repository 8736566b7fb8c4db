-- Trees that wait on a stack, and those that are left when the next one is seen.
use Rattle.std.proofs.Common.{◌≡◌, List, [], ◌∷◌, ◌++◌, refl, sym, ap, ◌∙◌}
use Rattle.std.specs.List.{flat_map}
use Rattle.std.proofs.lemmas.List.Concat.{flat_map-append}
use denote.Ref.{Bor}
use Rattle.seq_types.specs.declared.types.SeqType.{SeqType}
use Rattle.query_tree.specs.declared.bound.Slot.{Slot}
use Rattle.query_tree.specs.declared.bound.Target.{Target}
use Rattle.query_tree.specs.declared.expr.Expr.{Expr}
use Rattle.query_tree.specs.Plain as p
use Rattle.query_tree.specs.BoundViews.{bound_tree, bound_form}
use Rattle.query_tree.specs.Subtrees.{subtrees, form_children}
use Rattle.query_tree.specs.inside.Waiting.{waiting}
use Rattle.query_tree.proofs.Held.{form-held}
use Rattle.query_tree.proofs.Layers.{tree_of-out}

abbrev pub Lent : Type 0
Lent = Bor (Expr Slot Target SeqType)

pub waiting-none : waiting [] ≡ []
unfolding waiting
waiting-none = refl

pub waiting-last : (es : List Lent) (e : Lent) → waiting (es ++ e ∷ []) ≡ bound_tree e.now ∷ waiting es
unfolding waiting
waiting-last [] e = refl
waiting-last (x ∷ es) e = ap (λ ts. ts ++ bound_tree x.now ∷ []) (waiting-last es e)

-- the next tree, and behind it those that wait once it has put its children before the others
pub next-seen : (e : Lent) (others new : List Lent) → waiting new ≡ form_children (bound_form e.now.kind) ++ waiting others
    → flat_map subtrees (waiting (others ++ e ∷ [])) ≡ p.tree_node e.now.place (bound_form e.now.kind) ∷ flat_map subtrees (waiting new)
next-seen e others new h =
    let node = p.tree_node e.now.place (bound_form e.now.kind) in
    let is : bound_tree e.now ≡ node = tree_of-out Slot Target SeqType e.now in
    ap (flat_map subtrees) (waiting-last others e)
    ∙ ap (λ t. subtrees t ++ flat_map subtrees (waiting others)) is
    ∙ ap (λ ts. node ∷ ts ++ flat_map subtrees (waiting others)) (form-held (bound_form e.now.kind)).same
    ∙ ap (λ ts. node ∷ ts) (sym (flat_map-append subtrees (form_children (bound_form e.now.kind)) (waiting others)) ∙ ap (flat_map subtrees) (sym h))
