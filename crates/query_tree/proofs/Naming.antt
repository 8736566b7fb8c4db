-- How the walk over the trees of a query tells the names of its inputs.
use Rattle.std.proofs.Common.{◌≡◌, ℕ, ◌+◌, ◌<◌, ◌≤◌, List, [], ◌∷◌, ◌++◌, length, drop, get_or, refl, sym, ap, ◌∙◌, arith}
use Rattle.std.specs.Prelude.{Vec}
use Rattle.std.specs.declared.alloc.Global.{Global}
use Rattle.std.specs.List.{flat_map}
use Rattle.std.proofs.lemmas.List.{append-nil, drop_more, drop_all}
use Rattle.std.proofs.lemmas.List.Concat.{flat_map-append}
use Rattle.seq_types.specs.declared.types.SeqType.{SeqType}
use Rattle.query_tree.specs.declared.bound.Slot.{Slot}
use Rattle.query_tree.specs.declared.bound.Target.{Target}
use Rattle.query_tree.specs.declared.clause.Clause.{Clause}
use Rattle.query_tree.specs.declared.clause.Clause.TheOpen as node
use Rattle.query_tree.specs.declared.expr.Expr.{Expr}
use Rattle.query_tree.specs.declared.expr.Kind.{Kind, Kind-F, out-Kind, roll-Kind, roll-out-Kind}
use Rattle.query_tree.specs.declared.expr.Kind.TheVariants as kind
use Rattle.query_tree.specs.Plain.{PlainClause, Form, clause_layer, kind_layer, expr_layer, form_of, clause_of, tree_of}
use Rattle.query_tree.specs.Bound.{BoundTree}
use Rattle.query_tree.specs.BoundViews.{bound_tree, bound_form}
use Rattle.query_tree.specs.Calls.{calls}
use Rattle.query_tree.specs.Inputs.{names_read, all_names}
use Rattle.query_tree.specs.Subtrees.{subtrees, form_children}
use Rattle.query_tree.specs.inside.Told.{with_names, form_names, trees_names}
use Rattle.query_tree.specs.inside.Waiting.{waiting, lent}
use Rattle.query_tree.proofs.Folds.{kind_fold}
use Rattle.query_tree.proofs.Telling.{with_names-none, with_names-append, trees_names-none, trees_names-more}
use Rattle.query_tree.proofs.Waits.{Lent, waiting-none, next-seen}

-- ---- what waits, and what is told

-- what is told once all that waits is seen
abbrev pub told : List (List ℕ) → List Lent → List (List ℕ)
told found stack = with_names found (trees_names (flat_map subtrees (waiting stack)))

pub told-more : (found names : List (List ℕ)) (e : Lent) (stack others new : List Lent) → stack ≡ others ++ e ∷ []
    → names ≡ with_names found (form_names (bound_form e.now.kind)) → waiting new ≡ form_children (bound_form e.now.kind) ++ waiting others
    → told names new ≡ told found stack
told-more found names e stack others new is own h =
    let k = bound_form e.now.kind in
    let rest = flat_map subtrees (waiting new) in
    ap (λ f. with_names f (trees_names rest)) own
    ∙ sym (
    ap (told found) is
    ∙ ap (λ ts. with_names found (trees_names ts)) (next-seen e others new h)
    ∙ ap (with_names found) (trees_names-more e.now.place k rest)
    ∙ with_names-append found (form_names k) (trees_names rest))

pub fewer-left : (e : Lent) (stack others new : List Lent) → stack ≡ others ++ e ∷ [] → waiting new ≡ form_children (bound_form e.now.kind) ++ waiting others
    → length (flat_map subtrees (waiting new)) < length (flat_map subtrees (waiting stack))
fewer-left e stack others new is h =
    let same = ap (λ s. length (flat_map subtrees (waiting s))) is ∙ ap length (next-seen e others new h) in
    omega (arith, same)

pub told-begun : (found : List (List ℕ)) (stack : List Lent) (e : Lent) → stack ≡ e ∷ [] → told found stack ≡ with_names found (all_names (calls (bound_tree e.now)))
unfolding trees_names waiting
told-begun found stack e is = ap (told found) is ∙ ap (λ ts. with_names found (trees_names ts)) (append-nil (subtrees (bound_tree e.now)))

pub told-all : (found : List (List ℕ)) (stack : List Lent) → length stack ≡ 0 → told found stack ≡ found
told-all found [] e = ap (λ ts. with_names found (trees_names (flat_map subtrees ts))) waiting-none ∙ ap (with_names found) trees_names-none ∙ with_names-none found
told-all found (x ∷ stack) e = cc

-- ---- one tree behind the other

pub told-one : (found names : List (List ℕ)) (all : List Lent) (i : ℕ) (x : Lent) → i < length all → x ≡ get_or all i x
    → names ≡ with_names found (all_names (calls (bound_tree x.now)))
    → with_names names (all_names (flat_map calls (lent (drop (i + 1) all)))) ≡ with_names found (all_names (flat_map calls (lent (drop i all))))
told-one found names all i x l is own =
    let rest = flat_map calls (lent (drop (i + 1) all)) in
    ap (λ f. with_names f (all_names rest)) own
    ∙ sym (with_names-append found (all_names (calls (bound_tree x.now))) (all_names rest))
    ∙ ap (with_names found) (sym (flat_map-append (λ c. names_read c.name) (calls (bound_tree x.now)) rest))
    ∙ ap (λ es. with_names found (all_names (flat_map calls (lent es)))) (ap (λ y. y ∷ drop (i + 1) all) is ∙ sym (drop_more all i x l))

pub told-end : (found : List (List ℕ)) (all : List Lent) (i : ℕ) → length all ≤ i → with_names found (all_names (flat_map calls (lent (drop i all)))) ≡ found
told-end found all i l = ap (λ es. with_names found (all_names (flat_map calls (lent es)))) (drop_all i all l) ∙ with_names-none found

-- ---- what is no call reads nothing itself

abbrev BoundKind : Type 0
BoundKind = Kind Slot Target SeqType

abbrev Layer : Type 0
Layer = Kind-F Slot Target SeqType (Clause Slot Target SeqType) BoundKind (Expr Slot Target SeqType)

pub no_call : (k : BoundKind) → ((f : Target) (xs : Vec (Expr Slot Target SeqType) Global) → k ≡ kind.Call f xs → ⊥) → form_names (bound_form k) ≡ []
unfolding form_of clause_of tree_of
no_call k not_call = by (out-Kind Slot Target SeqType k) refl
  where
    by : (o : Layer) → out-Kind Slot Target SeqType k ≡ o → form_names (form_of Slot Target SeqType k) ≡ []
    by (node.Call f xs) h = absurd (not_call f xs (sym (roll-out-Kind Slot Target SeqType k) ∙ ap (roll-Kind Slot Target SeqType) h ∙ kind.rolls-Call f xs))
    by o h = ap form_names (kind_fold Slot Target SeqType (PlainClause Slot Target SeqType) (Form Slot Target SeqType) BoundTree (clause_layer Slot Target SeqType) (kind_layer Slot Target SeqType) (expr_layer Slot Target SeqType) k o h)
