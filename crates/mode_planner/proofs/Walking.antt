-- How the walk over a spine finds its leaves.
use Rattle.std.proofs.Common.{◌≡◌, ℕ, ◌<◌, Bool, true, false, Option, List, [], ◌∷◌, ◌++◌, length, length-append, refl, sym, ap, ◌∙◌, arith}
use Rattle.std.specs.Prelude.{Vec}
use Rattle.std.specs.declared.alloc.Global.{Global}
use Rattle.std.specs.declared.boxed.Box.{Box}
use Rattle.std.specs.List.{flat_map}
use Rattle.std.proofs.lemmas.List.{append-nil, append_assoc, map-append}
use Rattle.std.proofs.lemmas.List.Concat.{flat_map-append}
use Rattle.seq_types.specs.declared.types.SeqType.{SeqType}
use Rattle.query_tree.specs.declared.bound.Slot.{Slot}
use Rattle.query_tree.specs.declared.bound.Target.{Target}
use Rattle.query_tree.specs.declared.expr.Expr.{Expr}
use Rattle.query_tree.specs.declared.expr.Kind.TheVariants as kind
use Rattle.query_tree.specs.declared.part.Operand.{Operand}
use Rattle.query_tree.specs.declared.part.Catch.{Catch}
use Rattle.query_tree.specs.Plain as p
use Rattle.query_tree.specs.Plain.{Form, MaybeTree, PlainOperands}
use Rattle.query_tree.specs.Bound.{BoundTree}
use Rattle.query_tree.specs.BoundViews.{bound_tree, bound_form, bound_operand}
use Rattle.query_tree.specs.Subtrees.{subtrees, catches_subtrees, operand_children, operands_children, content_children}
use Rattle.query_tree.specs.inside.Waiting.{lent, waiting}
use Rattle.query_tree.proofs.Held.{operands-held, content-held, operands-listed}
use Rattle.query_tree.proofs.Layers.{tree_of-out, form_of-Comma, form_of-Paren, form_of-Try}
use Rattle.query_tree.proofs.Waits.{Lent, waiting-none, waiting-last}
use Rattle.mode_planner.specs.Spine.{passes, is_passed, onward, form_onward, leaves, form_leaves, content_leaves, operands_leaves}
use Rattle.mode_planner.specs.inside.Walk.{unless_passed, own_leaf}

-- ---- the leaves of an expression are itself or those of what stands in it

operands-parted : (os : PlainOperands Slot Target SeqType) → operands_leaves os ≡ flat_map leaves (operands_children os)
operands-parted p.no_operands = refl
operands-parted (p.more_operands (p.operand_node place value) os) = ap (λ ls. leaves value ++ ls) (operands-parted os)

content-parted : (c : MaybeTree Slot Target SeqType) → content_leaves c ≡ flat_map leaves (content_children c)
content-parted p.no_tree = refl
content-parted (p.one_tree t) = sym (append-nil (leaves t))

form-parted : (place : ℕ) (k : Form Slot Target SeqType) → form_leaves place k ≡ own_leaf (p.tree_node place k) ++ flat_map leaves (form_onward k)
form-parted place (p.comma_form first rest) = ap (λ ls. leaves first ++ ls) (operands-parted rest)
form-parted place (p.paren_form content) = content-parted content
form-parted place (p.try_form body _) = sym (append-nil (leaves body))
form-parted place _ = refl

leaves-parted : (t : BoundTree) → leaves t ≡ own_leaf t ++ flat_map leaves (onward t)
leaves-parted (p.tree_node place kind) = form-parted place kind

-- ---- what stands in an expression is less than it

form-fewer : (place : ℕ) (k : Form Slot Target SeqType) → length (flat_map subtrees (form_onward k)) < length (subtrees (p.tree_node place k))
form-fewer place (p.comma_form first rest) =
    let same = ap (λ ts. length (subtrees first ++ ts)) (operands-held rest).same in
    omega (arith, same)
form-fewer place (p.paren_form content) =
    let same = ap length (content-held content).same in
    omega (arith, same)
form-fewer place (p.try_form body handlers) =
    let alone = ap length (append-nil (subtrees body)) in
    omega (arith, alone, length-append (subtrees body) (catches_subtrees handlers))
form-fewer place _ = omega arith

tree-fewer : (t : BoundTree) → length (flat_map subtrees (onward t)) < length (subtrees t)
tree-fewer (p.tree_node place kind) = form-fewer place kind

-- ---- one step of the walk

abbrev BoundExpr : Type 0
BoundExpr = Expr Slot Target SeqType

abbrev formed : BoundExpr → Form Slot Target SeqType
formed e = bound_form e.kind

own-passed : (e : BoundExpr) (b : Bool) → passes (formed e) ≡ b → own_leaf (bound_tree e) ≡ unless_passed (bound_tree e) b
own-passed e b h = ap (λ t. unless_passed (bound_tree e) (is_passed t)) (tree_of-out Slot Target SeqType e) ∙ ap (unless_passed (bound_tree e)) h

pub none-found : (found : List BoundTree) (e : BoundExpr) → passes (formed e) ≡ true → found ≡ found ++ own_leaf (bound_tree e)
none-found found e h = sym (append-nil found) ∙ ap (λ ls. found ++ ls) (sym (own-passed e true h))

pub leaf-found : (before new : List Lent) (e : Lent) → new ≡ before ++ e ∷ [] → passes (formed e.now) ≡ false → lent new ≡ lent before ++ own_leaf (bound_tree e.now)
leaf-found before new e is h = ap lent is ∙ map-append (λ x. bound_tree x.now) before (e ∷ []) ∙ ap (λ ls. lent before ++ ls) (sym (own-passed e.now false h))

pub stands-onward : (e : BoundExpr) (ts : List BoundTree) → form_onward (formed e) ≡ ts → onward (bound_tree e) ≡ ts
stands-onward e ts h = ap onward (tree_of-out Slot Target SeqType e) ∙ h

pub comma-passed : (e : BoundExpr) (first : Box BoundExpr Global) (rest : Vec (Operand BoundExpr) Global) → e.kind ≡ kind.Comma first rest → passes (formed e) ≡ true
comma-passed e first rest h = ap (λ k. passes (bound_form k)) h ∙ ap passes (form_of-Comma Slot Target SeqType first rest)

pub paren-passed : (e : BoundExpr) (content : Option (Box BoundExpr Global)) → e.kind ≡ kind.Paren content → passes (formed e) ≡ true
paren-passed e content h = ap (λ k. passes (bound_form k)) h ∙ ap passes (form_of-Paren Slot Target SeqType content)

pub try-passed : (e : BoundExpr) (body : Box BoundExpr Global) (catches : Vec (Catch Slot BoundExpr) Global) → e.kind ≡ kind.Try body catches → passes (formed e) ≡ true
try-passed e body catches h = ap (λ k. passes (bound_form k)) h ∙ ap passes (form_of-Try Slot Target SeqType body catches)

pub comma-onward : (e : BoundExpr) (first : Box BoundExpr Global) (rest : Vec (Operand BoundExpr) Global) → e.kind ≡ kind.Comma first rest
    → onward (bound_tree e) ≡ bound_tree first.value ∷ flat_map (λ o. operand_children (bound_operand o)) rest.items
comma-onward e first rest h = stands-onward e _ (
    ap (λ k. form_onward (bound_form k)) h ∙ ap form_onward (form_of-Comma Slot Target SeqType first rest)
    ∙ ap (λ ts. bound_tree first.value ∷ ts) (sym (operands-listed rest.items)))

pub ruleset visits = (none-found, comma-passed, paren-passed, try-passed, comma-onward)

-- ---- the walk

pub walk-begun : (e : Lent) (stack : List Lent) → stack ≡ e ∷ [] → flat_map leaves (waiting stack) ≡ leaves (bound_tree e.now)
unfolding waiting
walk-begun e stack is = ap (λ s. flat_map leaves (waiting s)) is ∙ append-nil (leaves (bound_tree e.now))

pub walk-more : (e : Lent) (stack others new : List Lent) (found more : List BoundTree) → stack ≡ others ++ e ∷ []
    → waiting new ≡ onward (bound_tree e.now) ++ waiting others → more ≡ found ++ own_leaf (bound_tree e.now)
    → more ++ flat_map leaves (waiting new) ≡ found ++ flat_map leaves (waiting stack)
walk-more e stack others new found more is waits finds =
    let t = bound_tree e.now in
    let rest = flat_map leaves (waiting others) in
    ap (λ ls. ls ++ flat_map leaves (waiting new)) finds
    ∙ append_assoc found (own_leaf t) (flat_map leaves (waiting new))
    ∙ ap (λ ls. found ++ ls) (
    ap (λ ts. own_leaf t ++ flat_map leaves ts) waits
    ∙ ap (λ ls. own_leaf t ++ ls) (flat_map-append leaves (onward t) (waiting others))
    ∙ sym (append_assoc (own_leaf t) (flat_map leaves (onward t)) rest)
    ∙ ap (λ ls. ls ++ rest) (sym (leaves-parted t))
    ∙ sym (ap (λ s. flat_map leaves (waiting s)) is ∙ ap (flat_map leaves) (waiting-last others e)))

pub walk-fewer : (e : Lent) (stack others new : List Lent) → stack ≡ others ++ e ∷ [] → waiting new ≡ onward (bound_tree e.now) ++ waiting others
    → length (flat_map subtrees (waiting new)) < length (flat_map subtrees (waiting stack))
walk-fewer e stack others new is waits =
    let t = bound_tree e.now in
    let before = ap (λ s. length (flat_map subtrees (waiting s))) is ∙ ap (λ ts. length (flat_map subtrees ts)) (waiting-last others e) ∙ length-append (subtrees t) (flat_map subtrees (waiting others)) in
    let behind = ap (λ ts. length (flat_map subtrees ts)) waits ∙ ap length (flat_map-append subtrees (onward t) (waiting others)) ∙ length-append (flat_map subtrees (onward t)) (flat_map subtrees (waiting others)) in
    omega (arith, before, behind, tree-fewer t)

pub walk-done : (stack : List Lent) (found : List BoundTree) → length stack ≡ 0 → found ++ flat_map leaves (waiting stack) ≡ found
walk-done [] found e = ap (λ ts. found ++ flat_map leaves ts) waiting-none ∙ append-nil found
walk-done (x ∷ stack) found e = cc
