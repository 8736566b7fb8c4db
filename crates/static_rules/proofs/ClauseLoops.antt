-- How a loop over the clauses of a FLWOR goes on.
use Rattle.std.proofs.Common.{◌≡◌, ℕ, ◌+◌, ◌<◌, ◌≤◌, Bool, List, [], ◌∷◌, ◌++◌, Result, Ok, Err, OnOk, IfOk, length, drop, get_or, refl, sym, ap, subst, ◌∙◌}
use Rattle.std.proofs.lemmas.List.{drop_more, drop_all}
use Rattle.query_tree.specs.declared.bound.Slot.{Slot}
use Rattle.query_tree.specs.declared.bound.Target.{Target}
use Rattle.query_tree.specs.declared.clause.Clause.{Clause}
use Rattle.query_tree.specs.declared.names.TypeName.{TypeName}
use Rattle.seq_types.specs.declared.types.SeqType.{SeqType}
use Rattle.query_tree.specs.Plain as p
use Rattle.query_tree.specs.Plain.{PlainClauses}
use Rattle.static_rules.specs.Views as views
use Rattle.static_rules.specs.Views.{seeing}
use Rattle.static_rules.specs.Mentions.{clauses_mentions, clause_mentions}
use Rattle.query_tree.specs.Binders.{clauses_binders, clause_binders}
use Rattle.static_rules.specs.Compiling.{past, compiled_clauses, compiled_clause, after_clause, after_clauses}
use Rattle.static_rules.specs.Gathering.{Pushed}
use Rattle.static_rules.specs.Walks.{State, view_of, bound_names}
use Rattle.static_rules.specs.Openings.{entered}
use Rattle.query_tree.specs.NamedViews.{named_clauses, named_clause}
use Rattle.query_tree.specs.BoundViews.{bound_clauses, bound_clause}
use Rattle.static_rules.specs.Behind.{stream_of, behind_clause, behind_clauses}
use Rattle.static_rules.proofs.Streams.{view-clause, stream-clause, longer-clause}
use Rattle.static_rules.proofs.Scoping.{entered-names, entered-number, entered-entered, entered-none}

abbrev pub with_clauses : PlainClauses Slot Target SeqType → PlainClauses Slot Target SeqType → PlainClauses Slot Target SeqType
with_clauses p.no_clauses rest = rest
with_clauses (p.more_clauses x xs) rest = p.more_clauses x (with_clauses xs rest)

with_clauses-none : (xs : PlainClauses Slot Target SeqType) → with_clauses xs p.no_clauses ≡ xs
with_clauses-none p.no_clauses = refl
with_clauses-none (p.more_clauses x xs) = ap (p.more_clauses x) (with_clauses-none xs)

with_clauses-one : (xs : List (Clause Slot Target SeqType)) (y : Clause Slot Target SeqType) (rest : PlainClauses Slot Target SeqType) → with_clauses (bound_clauses (xs ++ y ∷ [])) rest ≡ with_clauses (bound_clauses xs) (p.more_clauses (bound_clause y) rest)
with_clauses-one [] y rest = refl
with_clauses-one (x ∷ xs) y rest = ap (p.more_clauses (bound_clause x)) (with_clauses-one xs y rest)

pub record ClausesLeft (item : Bool) (base : ℕ) (old : State) (all : List (Clause (List ℕ) (List ℕ) TypeName)) (now : State) (out : List (Clause Slot Target SeqType)) (rest : List (Clause (List ℕ) (List ℕ) TypeName)) : Type 0 where
  longer : base ≤ length now.names.variables
  walk : behind_clauses now item base (named_clauses rest) ≡ behind_clauses old item base (named_clauses all)
  tree : with_clauses (bound_clauses out) (compiled_clauses now.names now.number (named_clauses rest)) ≡ compiled_clauses old.names old.number (named_clauses all)

clauses-step : (item : Bool) (base : ℕ) (old : State) (all : List (Clause (List ℕ) (List ℕ) TypeName)) (now next : State) (out : List (Clause Slot Target SeqType)) (x : Clause (List ℕ) (List ℕ) TypeName) (rest : List (Clause (List ℕ) (List ℕ) TypeName)) (y : Clause Slot Target SeqType)
    → ClausesLeft item base old all now out (x ∷ rest) → bound_clause y ≡ compiled_clause now.names now.number (named_clause x) → next ≡ behind_clause now item base (named_clause x)
    → ClausesLeft item base old all next (out ++ y ∷ []) rest
clauses-step item base old all now next out x rest y h made walked =
    let b = named_clause x in
    let names = after_clause now.names now.number b in
    let s : State = entered now (clause_mentions (view_of item now.names) (stream_of base now.names) b) (clause_binders b) names in
    let same : s.names ≡ names = entered-names now (clause_mentions (view_of item now.names) (stream_of base now.names) b) (clause_binders b) names in
    let count : s.number ≡ past now.number (clause_binders b) = entered-number now (clause_mentions (view_of item now.names) (stream_of base now.names) b) (clause_binders b) names in
    let view = seeing (view_of item now.names) (views.after_clause (bound_names now.names.variables) b) in
    let stream = views.after_clause (stream_of base now.names) b in
    record {
      longer = subst (λ t. base ≤ length t.names.variables) (sym walked) (subst (λ n. base ≤ length n.variables) (sym same) (longer-clause base now.names now.number b h.longer));
      walk =
          ap (λ t. behind_clauses t item base (named_clauses rest)) walked
          ∙ ap (λ n. entered s (clauses_mentions (view_of item n) (stream_of base n) (named_clauses rest)) (clauses_binders (named_clauses rest)) (after_clauses n s.number (named_clauses rest))) same
          ∙ ap (λ k. entered s (clauses_mentions (view_of item names) (stream_of base names) (named_clauses rest)) (clauses_binders (named_clauses rest)) (after_clauses names k (named_clauses rest))) count
          ∙ ap (λ v. entered s (clauses_mentions v (stream_of base names) (named_clauses rest)) (clauses_binders (named_clauses rest)) (after_clauses names (past now.number (clause_binders b)) (named_clauses rest))) (view-clause item now.names now.number b)
          ∙ ap (λ q. entered s (clauses_mentions view q (named_clauses rest)) (clauses_binders (named_clauses rest)) (after_clauses names (past now.number (clause_binders b)) (named_clauses rest))) (stream-clause base now.names now.number b h.longer)
          ∙ entered-entered now (clause_mentions (view_of item now.names) (stream_of base now.names) b) (clauses_mentions view stream (named_clauses rest)) (clause_binders b) (clauses_binders (named_clauses rest)) names (after_clauses names (past now.number (clause_binders b)) (named_clauses rest))
          ∙ h.walk;
      tree =
          with_clauses-one out y (compiled_clauses next.names next.number (named_clauses rest))
          ∙ ap (λ t. with_clauses (bound_clauses out) (p.more_clauses (bound_clause y) (compiled_clauses t.names t.number (named_clauses rest)))) walked
          ∙ ap (λ n. with_clauses (bound_clauses out) (p.more_clauses (bound_clause y) (compiled_clauses n s.number (named_clauses rest)))) same
          ∙ ap (λ k. with_clauses (bound_clauses out) (p.more_clauses (bound_clause y) (compiled_clauses names k (named_clauses rest)))) count
          ∙ ap (λ z. with_clauses (bound_clauses out) (p.more_clauses z (compiled_clauses names (past now.number (clause_binders b)) (named_clauses rest)))) made
          ∙ h.tree;
    }

pub clauses-begun : (item : Bool) (base : ℕ) (old : State) (all : List (Clause (List ℕ) (List ℕ) TypeName)) → base ≤ length old.names.variables → ClausesLeft item base old all old [] all
clauses-begun item base old all longer = record { longer = longer; walk = refl; tree = refl }

pub clauses-more : {E : Type 0} (item : Bool) (base : ℕ) (old : State) (all : List (Clause (List ℕ) (List ℕ) TypeName)) (now next : State) (out longer : List (Clause Slot Target SeqType)) (i : ℕ) (x : Clause (List ℕ) (List ℕ) TypeName) (part : Result (Clause Slot Target SeqType) E)
    → ClausesLeft item base old all now out (drop i all) → i < length all → x ≡ get_or all i x
    → IfOk part (λ y. bound_clause y ≡ compiled_clause now.names now.number (named_clause x)) → OnOk part (next ≡ behind_clause now item base (named_clause x)) → Pushed out part longer
    → ClausesLeft item base old all next longer (drop (i + 1) all)
clauses-more item base old all now next out longer i x (Ok y) h l here made walked pushed =
    let at : drop i all ≡ x ∷ drop (i + 1) all = drop_more all i x l ∙ ap (λ z. z ∷ drop (i + 1) all) (sym here) in
    subst (λ ys. ClausesLeft item base old all next ys (drop (i + 1) all)) (sym pushed)
    (clauses-step item base old all now next out x (drop (i + 1) all) y (subst (λ rest. ClausesLeft item base old all now out rest) at h) made walked)
clauses-more item base old all now next out longer i x (Err e) h l here made walked pushed = absurd pushed

pub clauses-tree : (item : Bool) (base : ℕ) (old : State) (all : List (Clause (List ℕ) (List ℕ) TypeName)) (now : State) (out : List (Clause Slot Target SeqType)) (i : ℕ)
    → ClausesLeft item base old all now out (drop i all) → length all ≤ i → bound_clauses out ≡ compiled_clauses old.names old.number (named_clauses all)
clauses-tree item base old all now out i h l =
    let g = subst (λ rest. ClausesLeft item base old all now out rest) (drop_all i all l) h in
    sym (with_clauses-none (bound_clauses out)) ∙ g.tree

pub clauses-walk : (item : Bool) (base : ℕ) (old : State) (all : List (Clause (List ℕ) (List ℕ) TypeName)) (now : State) (out : List (Clause Slot Target SeqType)) (i : ℕ)
    → ClausesLeft item base old all now out (drop i all) → length all ≤ i → now ≡ behind_clauses old item base (named_clauses all)
clauses-walk item base old all now out i h l =
    let g = subst (λ rest. ClausesLeft item base old all now out rest) (drop_all i all l) h in
    sym (entered-none now) ∙ g.walk
