-- What the walk has found, and what waits.
use Rattle.std.proofs.Common.{◌≡◌, ◌<◌, List, [], ◌∷◌, ◌++◌, length, sym, ap, ◌∙◌, append_assoc, arith}
use Rattle.std.specs.List.{flat_map}
use Rattle.std.proofs.lemmas.List.{append-nil, map-append}
use Rattle.seq_types.specs.declared.types.SeqType.{SeqType}
use Rattle.query_tree.specs.declared.bound.Slot.{Slot}
use Rattle.query_tree.specs.declared.bound.Target.{Target}
use Rattle.query_tree.specs.Plain as p
use Rattle.query_tree.specs.Bound.{BoundTree}
use Rattle.query_tree.specs.BoundViews.{bound_tree, bound_form}
use Rattle.query_tree.specs.Subtrees.{subtrees, form_children}
use Rattle.query_tree.specs.inside.Waiting.{lent, waiting}
use Rattle.query_tree.proofs.Layers.{tree_of-out}
use Rattle.query_tree.proofs.Waits.{Lent, waiting-none, next-seen}

-- all that is found once what waits is seen
abbrev pub seen : List Lent → List Lent → List BoundTree
seen found stack = lent found ++ flat_map subtrees (waiting stack)

pub fewer-left : (e : Lent) (stack others new : List Lent) → stack ≡ others ++ e ∷ [] → waiting new ≡ form_children (bound_form e.now.kind) ++ waiting others
    → length (flat_map subtrees (waiting new)) < length (flat_map subtrees (waiting stack))
fewer-left e stack others new is h =
    let same = ap (λ s. length (flat_map subtrees (waiting s))) is ∙ ap length (next-seen e others new h) in
    omega (arith, same)

pub seen-more : (found after : List Lent) (e : Lent) (stack others new : List Lent) → stack ≡ others ++ e ∷ [] → after ≡ found ++ e ∷ []
    → waiting new ≡ form_children (bound_form e.now.kind) ++ waiting others → seen after new ≡ seen found stack
seen-more found after e stack others new is more h =
    let node = p.tree_node e.now.place (bound_form e.now.kind) in
    let rest = flat_map subtrees (waiting new) in
    ap (λ es. lent es ++ rest) more
    ∙ ap (λ ts. ts ++ rest) (map-append _ found (e ∷ []))
    ∙ append_assoc (lent found) (bound_tree e.now ∷ []) rest
    ∙ ap (λ t. lent found ++ t ∷ rest) (tree_of-out Slot Target SeqType e.now)
    ∙ sym (ap (seen found) is ∙ ap (λ ts. lent found ++ ts) (next-seen e others new h))

pub seen-begun : (found stack : List Lent) (e : Lent) → stack ≡ e ∷ [] → seen found stack ≡ lent found ++ subtrees (bound_tree e.now)
unfolding waiting
seen-begun found stack e is = ap (seen found) is ∙ ap (λ ts. lent found ++ ts) (append-nil (subtrees (bound_tree e.now)))

pub seen-all : (found stack : List Lent) → length stack ≡ 0 → seen found stack ≡ lent found
seen-all found [] e = ap (λ ts. lent found ++ flat_map subtrees ts) waiting-none ∙ append-nil (lent found)
seen-all found (x ∷ stack) e = cc
