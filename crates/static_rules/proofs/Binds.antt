-- How a loop over the bindings of a quantified expression goes on.
use Rattle.std.proofs.Common.{◌≡◌, ℕ, ◌+◌, ◌<◌, ◌≤◌, Bool, List, [], ◌∷◌, ◌++◌, Result, Ok, Err, OnOk, IfOk, length, drop, get_or, refl, sym, ap, subst, ◌∙◌}
use Rattle.std.proofs.lemmas.List.{drop_more, drop_all}
use Rattle.query_tree.specs.declared.bound.Slot.{Slot}
use Rattle.query_tree.specs.declared.bound.Target.{Target}
use Rattle.query_tree.specs.declared.expr.Expr.{Expr}
use Rattle.query_tree.specs.declared.part.Bind.{Bind}
use Rattle.query_tree.specs.declared.names.TypeName.{TypeName}
use Rattle.seq_types.specs.declared.types.SeqType.{SeqType}
use Rattle.query_tree.specs.Plain as p
use Rattle.query_tree.specs.Plain.{PlainBinds}
use Rattle.static_rules.specs.Mentions.{binds_mentions, bind_mentions}
use Rattle.query_tree.specs.Binders.{binds_binders, bind_binders}
use Rattle.static_rules.specs.Compiling.{past, compiled_binds, compiled_bind, after_bind, after_binds}
use Rattle.static_rules.specs.Gathering.{Pushed}
use Rattle.static_rules.specs.Walks.{State, view_of}
use Rattle.static_rules.specs.Openings.{entered}
use Rattle.query_tree.specs.NamedViews.{named_binds, named_bind}
use Rattle.query_tree.specs.BoundViews.{bound_binds, bound_bind}
use Rattle.static_rules.specs.Behind.{behind_bind, behind_binds}
use Rattle.static_rules.proofs.Scoping.{entered-names, entered-number, entered-entered, entered-none}

abbrev pub with_binds : PlainBinds Slot Target SeqType → PlainBinds Slot Target SeqType → PlainBinds Slot Target SeqType
with_binds p.no_binds rest = rest
with_binds (p.more_binds x xs) rest = p.more_binds x (with_binds xs rest)

with_binds-none : (xs : PlainBinds Slot Target SeqType) → with_binds xs p.no_binds ≡ xs
with_binds-none p.no_binds = refl
with_binds-none (p.more_binds x xs) = ap (p.more_binds x) (with_binds-none xs)

with_binds-one : (xs : List (Bind Slot SeqType (Expr Slot Target SeqType))) (y : Bind Slot SeqType (Expr Slot Target SeqType)) (rest : PlainBinds Slot Target SeqType) → with_binds (bound_binds (xs ++ y ∷ [])) rest ≡ with_binds (bound_binds xs) (p.more_binds (bound_bind y) rest)
with_binds-one [] y rest = refl
with_binds-one (x ∷ xs) y rest = ap (p.more_binds (bound_bind x)) (with_binds-one xs y rest)

pub record BindsLeft (item : Bool) (old : State) (all : List (Bind (List ℕ) TypeName (Expr (List ℕ) (List ℕ) TypeName))) (now : State) (out : List (Bind Slot SeqType (Expr Slot Target SeqType))) (rest : List (Bind (List ℕ) TypeName (Expr (List ℕ) (List ℕ) TypeName))) : Type 0 where
  walk : behind_binds now item (named_binds rest) ≡ behind_binds old item (named_binds all)
  tree : with_binds (bound_binds out) (compiled_binds now.names now.number (named_binds rest)) ≡ compiled_binds old.names old.number (named_binds all)

binds-step : (item : Bool) (old : State) (all : List (Bind (List ℕ) TypeName (Expr (List ℕ) (List ℕ) TypeName))) (now next : State) (out : List (Bind Slot SeqType (Expr Slot Target SeqType))) (x : Bind (List ℕ) TypeName (Expr (List ℕ) (List ℕ) TypeName)) (rest : List (Bind (List ℕ) TypeName (Expr (List ℕ) (List ℕ) TypeName))) (y : Bind Slot SeqType (Expr Slot Target SeqType))
    → BindsLeft item old all now out (x ∷ rest) → bound_bind y ≡ compiled_bind now.names now.number (named_bind x) → next ≡ behind_bind now item (named_bind x)
    → BindsLeft item old all next (out ++ y ∷ []) rest
binds-step item old all now next out x rest y h made walked =
    let b = named_bind x in
    let names = after_bind now.names now.number b in
    let s : State = entered now (bind_mentions (view_of item now.names) b) (bind_binders b) names in
    let same : s.names ≡ names = entered-names now (bind_mentions (view_of item now.names) b) (bind_binders b) names in
    let count : s.number ≡ past now.number (bind_binders b) = entered-number now (bind_mentions (view_of item now.names) b) (bind_binders b) names in
    record {
      walk =
          ap (λ t. behind_binds t item (named_binds rest)) walked
          ∙ ap (λ n. entered s (binds_mentions (view_of item n) (named_binds rest)) (binds_binders (named_binds rest)) (after_binds n s.number (named_binds rest))) same
          ∙ ap (λ k. entered s (binds_mentions (view_of item names) (named_binds rest)) (binds_binders (named_binds rest)) (after_binds names k (named_binds rest))) count
          ∙ entered-entered now (bind_mentions (view_of item now.names) b) (binds_mentions (view_of item names) (named_binds rest)) (bind_binders b) (binds_binders (named_binds rest)) names (after_binds names (past now.number (bind_binders b)) (named_binds rest))
          ∙ h.walk;
      tree =
          with_binds-one out y (compiled_binds next.names next.number (named_binds rest))
          ∙ ap (λ t. with_binds (bound_binds out) (p.more_binds (bound_bind y) (compiled_binds t.names t.number (named_binds rest)))) walked
          ∙ ap (λ n. with_binds (bound_binds out) (p.more_binds (bound_bind y) (compiled_binds n s.number (named_binds rest)))) same
          ∙ ap (λ k. with_binds (bound_binds out) (p.more_binds (bound_bind y) (compiled_binds names k (named_binds rest)))) count
          ∙ ap (λ z. with_binds (bound_binds out) (p.more_binds z (compiled_binds names (past now.number (bind_binders b)) (named_binds rest)))) made
          ∙ h.tree;
    }

pub binds-begun : (item : Bool) (old : State) (all : List (Bind (List ℕ) TypeName (Expr (List ℕ) (List ℕ) TypeName))) → BindsLeft item old all old [] all
binds-begun item old all = record { walk = refl; tree = refl }

pub binds-more : {E : Type 0} (item : Bool) (old : State) (all : List (Bind (List ℕ) TypeName (Expr (List ℕ) (List ℕ) TypeName))) (now next : State) (out longer : List (Bind Slot SeqType (Expr Slot Target SeqType))) (i : ℕ) (x : Bind (List ℕ) TypeName (Expr (List ℕ) (List ℕ) TypeName)) (part : Result (Bind Slot SeqType (Expr Slot Target SeqType)) E)
    → BindsLeft item old all now out (drop i all) → i < length all → x ≡ get_or all i x
    → IfOk part (λ y. bound_bind y ≡ compiled_bind now.names now.number (named_bind x)) → OnOk part (next ≡ behind_bind now item (named_bind x)) → Pushed out part longer
    → BindsLeft item old all next longer (drop (i + 1) all)
binds-more item old all now next out longer i x (Ok y) h l here made walked pushed =
    let at : drop i all ≡ x ∷ drop (i + 1) all = drop_more all i x l ∙ ap (λ z. z ∷ drop (i + 1) all) (sym here) in
    subst (λ ys. BindsLeft item old all next ys (drop (i + 1) all)) (sym pushed)
    (binds-step item old all now next out x (drop (i + 1) all) y (subst (λ rest. BindsLeft item old all now out rest) at h) made walked)
binds-more item old all now next out longer i x (Err e) h l here made walked pushed = absurd pushed

pub binds-tree : (item : Bool) (old : State) (all : List (Bind (List ℕ) TypeName (Expr (List ℕ) (List ℕ) TypeName))) (now : State) (out : List (Bind Slot SeqType (Expr Slot Target SeqType))) (i : ℕ)
    → BindsLeft item old all now out (drop i all) → length all ≤ i → bound_binds out ≡ compiled_binds old.names old.number (named_binds all)
binds-tree item old all now out i h l =
    let g = subst (λ rest. BindsLeft item old all now out rest) (drop_all i all l) h in
    sym (with_binds-none (bound_binds out)) ∙ g.tree

pub binds-walk : (item : Bool) (old : State) (all : List (Bind (List ℕ) TypeName (Expr (List ℕ) (List ℕ) TypeName))) (now : State) (out : List (Bind Slot SeqType (Expr Slot Target SeqType))) (i : ℕ)
    → BindsLeft item old all now out (drop i all) → length all ≤ i → now ≡ behind_binds old item (named_binds all)
binds-walk item old all now out i h l =
    let g = subst (λ rest. BindsLeft item old all now out rest) (drop_all i all l) h in
    sym (entered-none now) ∙ g.walk
