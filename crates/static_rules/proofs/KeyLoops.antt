-- How a loop over the keys of a grouping goes on. The stream is what was bound before the first key.
use Rattle.std.proofs.Common.{◌≡◌, ℕ, ◌+◌, ◌<◌, ◌≤◌, Bool, List, [], ◌∷◌, ◌++◌, Result, Ok, Err, OnOk, IfOk, length, drop, get_or, refl, sym, ap, subst, ◌∙◌}
use Rattle.std.proofs.lemmas.List.{drop_more, drop_all}
use Rattle.query_tree.specs.declared.bound.Slot.{Slot}
use Rattle.query_tree.specs.declared.bound.Target.{Target}
use Rattle.query_tree.specs.declared.clause.GroupVar.{GroupVar}
use Rattle.query_tree.specs.declared.expr.Expr.{Expr}
use Rattle.query_tree.specs.declared.names.TypeName.{TypeName}
use Rattle.seq_types.specs.declared.types.SeqType.{SeqType}
use Rattle.query_tree.specs.Plain as p
use Rattle.query_tree.specs.Plain.{PlainGroupVar, PlainGroupVars}
use Rattle.static_rules.specs.Views as views
use Rattle.static_rules.specs.Views.{seeing}
use Rattle.static_rules.specs.Mentions.{group_vars_mentions, group_var_mentions}
use Rattle.query_tree.specs.Binders.{group_vars_binders, group_var_binders}
use Rattle.static_rules.specs.Compiling.{Names, past, compiled_group_vars, compiled_group_var, after_key, after_keys}
use Rattle.static_rules.specs.Gathering.{Pushed}
use Rattle.static_rules.specs.Walks.{State, view_of, bound_names}
use Rattle.static_rules.specs.Openings.{entered}
use Rattle.query_tree.specs.NamedViews.{named_group_vars, named_group_var}
use Rattle.query_tree.specs.BoundViews.{bound_group_vars, bound_group_var}
use Rattle.static_rules.specs.Behind.{stream_of, below, behind_key, behind_keys}
use Rattle.static_rules.proofs.Scoping.{entered-names, entered-number, entered-entered, entered-none}
use Rattle.static_rules.proofs.Streams.{below-key, longer-key}

abbrev pub with_keys : PlainGroupVars Slot Target SeqType → PlainGroupVars Slot Target SeqType → PlainGroupVars Slot Target SeqType
with_keys p.no_group_vars rest = rest
with_keys (p.more_group_vars x xs) rest = p.more_group_vars x (with_keys xs rest)

with_keys-none : (xs : PlainGroupVars Slot Target SeqType) → with_keys xs p.no_group_vars ≡ xs
with_keys-none p.no_group_vars = refl
with_keys-none (p.more_group_vars x xs) = ap (p.more_group_vars x) (with_keys-none xs)

with_keys-one : (xs : List (GroupVar Slot (Expr Slot Target SeqType))) (y : GroupVar Slot (Expr Slot Target SeqType)) (rest : PlainGroupVars Slot Target SeqType) → with_keys (bound_group_vars (xs ++ y ∷ [])) rest ≡ with_keys (bound_group_vars xs) (p.more_group_vars (bound_group_var y) rest)
with_keys-one [] y rest = refl
with_keys-one (x ∷ xs) y rest = ap (p.more_group_vars (bound_group_var x)) (with_keys-one xs y rest)

view-key : (item : Bool) (s : Names) (n : ℕ) (k : PlainGroupVar (List ℕ) (List ℕ) TypeName) → view_of item (after_key s n k) ≡ seeing (view_of item s) (views.after_key (bound_names s.variables) k)
view-key item s n (p.stream_group_var variable) = refl
view-key item s n (p.computed_group_var variable value) = refl

pub record KeysLeft (item : Bool) (base mark : ℕ) (old : State) (all : List (GroupVar (List ℕ) (Expr (List ℕ) (List ℕ) TypeName))) (now : State) (out : List (GroupVar Slot (Expr Slot Target SeqType))) (rest : List (GroupVar (List ℕ) (Expr (List ℕ) (List ℕ) TypeName))) : Type 0 where
  longer : mark ≤ length now.names.variables
  stream : below mark now.names ≡ below mark old.names
  walk : behind_keys now item base mark (named_group_vars rest) ≡ behind_keys old item base mark (named_group_vars all)
  tree : with_keys (bound_group_vars out) (compiled_group_vars (below mark old.names) now.names now.number (named_group_vars rest)) ≡ compiled_group_vars (below mark old.names) old.names old.number (named_group_vars all)

keys-step : (item : Bool) (base mark : ℕ) (old : State) (all : List (GroupVar (List ℕ) (Expr (List ℕ) (List ℕ) TypeName))) (now next : State) (out : List (GroupVar Slot (Expr Slot Target SeqType))) (x : GroupVar (List ℕ) (Expr (List ℕ) (List ℕ) TypeName)) (rest : List (GroupVar (List ℕ) (Expr (List ℕ) (List ℕ) TypeName))) (y : GroupVar Slot (Expr Slot Target SeqType))
    → KeysLeft item base mark old all now out (x ∷ rest) → bound_group_var y ≡ compiled_group_var (below mark now.names) now.names now.number (named_group_var x) → next ≡ behind_key now item base mark (named_group_var x)
    → KeysLeft item base mark old all next (out ++ y ∷ []) rest
keys-step item base mark old all now next out x rest y h made walked =
    let k = named_group_var x in
    let names = after_key now.names now.number k in
    let stream = stream_of base (below mark now.names) in
    let view = seeing (view_of item now.names) (views.after_key (bound_names now.names.variables) k) in
    let s : State = entered now (group_var_mentions (view_of item now.names) stream k) (group_var_binders k) names in
    let same : s.names ≡ names = entered-names now (group_var_mentions (view_of item now.names) stream k) (group_var_binders k) names in
    let count : s.number ≡ past now.number (group_var_binders k) = entered-number now (group_var_mentions (view_of item now.names) stream k) (group_var_binders k) names in
    let kept : below mark names ≡ below mark now.names = below-key mark now.names now.number k h.longer in
    record {
      longer = subst (λ t. mark ≤ length t.names.variables) (sym walked) (subst (λ n. mark ≤ length n.variables) (sym same) (longer-key mark now.names now.number k h.longer));
      stream = ap (λ t. below mark t.names) walked ∙ ap (below mark) same ∙ kept ∙ h.stream;
      walk =
          ap (λ t. behind_keys t item base mark (named_group_vars rest)) walked
          ∙ ap (λ n. entered s (group_vars_mentions (view_of item n) (stream_of base (below mark n)) (named_group_vars rest)) (group_vars_binders (named_group_vars rest)) (after_keys n s.number (named_group_vars rest))) same
          ∙ ap (λ c. entered s (group_vars_mentions (view_of item names) (stream_of base (below mark names)) (named_group_vars rest)) (group_vars_binders (named_group_vars rest)) (after_keys names c (named_group_vars rest))) count
          ∙ ap (λ v. entered s (group_vars_mentions v (stream_of base (below mark names)) (named_group_vars rest)) (group_vars_binders (named_group_vars rest)) (after_keys names (past now.number (group_var_binders k)) (named_group_vars rest))) (view-key item now.names now.number k)
          ∙ ap (λ b. entered s (group_vars_mentions view (stream_of base b) (named_group_vars rest)) (group_vars_binders (named_group_vars rest)) (after_keys names (past now.number (group_var_binders k)) (named_group_vars rest))) kept
          ∙ entered-entered now (group_var_mentions (view_of item now.names) stream k) (group_vars_mentions view stream (named_group_vars rest)) (group_var_binders k) (group_vars_binders (named_group_vars rest)) names (after_keys names (past now.number (group_var_binders k)) (named_group_vars rest))
          ∙ h.walk;
      tree =
          with_keys-one out y (compiled_group_vars (below mark old.names) next.names next.number (named_group_vars rest))
          ∙ ap (λ t. with_keys (bound_group_vars out) (p.more_group_vars (bound_group_var y) (compiled_group_vars (below mark old.names) t.names t.number (named_group_vars rest)))) walked
          ∙ ap (λ n. with_keys (bound_group_vars out) (p.more_group_vars (bound_group_var y) (compiled_group_vars (below mark old.names) n s.number (named_group_vars rest)))) same
          ∙ ap (λ c. with_keys (bound_group_vars out) (p.more_group_vars (bound_group_var y) (compiled_group_vars (below mark old.names) names c (named_group_vars rest)))) count
          ∙ ap (λ z. with_keys (bound_group_vars out) (p.more_group_vars z (compiled_group_vars (below mark old.names) names (past now.number (group_var_binders k)) (named_group_vars rest)))) (made ∙ ap (λ b. compiled_group_var b now.names now.number k) h.stream)
          ∙ h.tree;
    }

pub keys-begun : (item : Bool) (base mark : ℕ) (old : State) (all : List (GroupVar (List ℕ) (Expr (List ℕ) (List ℕ) TypeName))) → mark ≤ length old.names.variables → KeysLeft item base mark old all old [] all
keys-begun item base mark old all longer = record { longer = longer; stream = refl; walk = refl; tree = refl }

pub keys-more : {E : Type 0} (item : Bool) (base mark : ℕ) (old : State) (all : List (GroupVar (List ℕ) (Expr (List ℕ) (List ℕ) TypeName))) (now next : State) (out longer : List (GroupVar Slot (Expr Slot Target SeqType))) (i : ℕ) (x : GroupVar (List ℕ) (Expr (List ℕ) (List ℕ) TypeName)) (part : Result (GroupVar Slot (Expr Slot Target SeqType)) E)
    → KeysLeft item base mark old all now out (drop i all) → i < length all → x ≡ get_or all i x
    → IfOk part (λ y. bound_group_var y ≡ compiled_group_var (below mark now.names) now.names now.number (named_group_var x)) → OnOk part (next ≡ behind_key now item base mark (named_group_var x)) → Pushed out part longer
    → KeysLeft item base mark old all next longer (drop (i + 1) all)
keys-more item base mark old all now next out longer i x (Ok y) h l here made walked pushed =
    let at : drop i all ≡ x ∷ drop (i + 1) all = drop_more all i x l ∙ ap (λ z. z ∷ drop (i + 1) all) (sym here) in
    subst (λ ys. KeysLeft item base mark old all next ys (drop (i + 1) all)) (sym pushed)
    (keys-step item base mark old all now next out x (drop (i + 1) all) y (subst (λ rest. KeysLeft item base mark old all now out rest) at h) made walked)
keys-more item base mark old all now next out longer i x (Err e) h l here made walked pushed = absurd pushed

pub keys-tree : (item : Bool) (base mark : ℕ) (old : State) (all : List (GroupVar (List ℕ) (Expr (List ℕ) (List ℕ) TypeName))) (now : State) (out : List (GroupVar Slot (Expr Slot Target SeqType))) (i : ℕ)
    → KeysLeft item base mark old all now out (drop i all) → length all ≤ i → bound_group_vars out ≡ compiled_group_vars (below mark old.names) old.names old.number (named_group_vars all)
keys-tree item base mark old all now out i h l =
    let g = subst (λ rest. KeysLeft item base mark old all now out rest) (drop_all i all l) h in
    sym (with_keys-none (bound_group_vars out)) ∙ g.tree

pub keys-walk : (item : Bool) (base mark : ℕ) (old : State) (all : List (GroupVar (List ℕ) (Expr (List ℕ) (List ℕ) TypeName))) (now : State) (out : List (GroupVar Slot (Expr Slot Target SeqType))) (i : ℕ)
    → KeysLeft item base mark old all now out (drop i all) → length all ≤ i → now ≡ behind_keys old item base mark (named_group_vars all)
keys-walk item base mark old all now out i h l =
    let g = subst (λ rest. KeysLeft item base mark old all now out rest) (drop_all i all l) h in
    sym (entered-none now) ∙ g.walk
