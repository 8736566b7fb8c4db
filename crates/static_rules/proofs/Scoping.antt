-- How scopes open and close.
use Rattle.std.proofs.Common.{◌≡◌, ℕ, ◌+◌, ◌-◌, ◌≤◌, Bool, Option, Some, None, List, [], ◌∷◌, ◌++◌, length, drop, refl, sym, ap, ◌∙◌, arith}
use Rattle.std.proofs.lemmas.List.{drop-drop}
use Rattle.query_tree.specs.declared.bound.Slot.{Slot}
use Rattle.query_tree.specs.declared.bound.Slot.TheVariants.{Local}
use Rattle.query_tree.specs.declared.names.Placed.{Placed}
use Rattle.query_tree.specs.declared.names.TypeName.{TypeName}
use Rattle.query_tree.specs.Plain as p
use Rattle.query_tree.specs.Plain.{PlainClause, PlainClauses, PlainGroupVar, PlainGroupVars, PlainBind, PlainBinds}
use Rattle.std.specs.Str.{bytes_eq}
use Rattle.static_rules.specs.declared.rules.Refusal.{Refusal}
use Rattle.static_rules.specs.declared.rules.Rule.TheVariants.{PositionTwice}
use Rattle.static_rules.specs.Views as views
use Rattle.static_rules.specs.Views.{View, Callee, seeing, and_any}
use Rattle.static_rules.specs.Mentions.{MentionAt, mention_at, counts_positions}
use Rattle.query_tree.specs.Binders as binders
use Rattle.query_tree.specs.Binders.{any_name}
use Rattle.static_rules.specs.Compiling.{Names, past, with_slot, with_any, after_keys, after_clause, after_clauses, after_binds}
use Rattle.static_rules.specs.Openings.{Extends, opened, opened_any, numbered, bound_to, bound_for, closed, entered}
use Rattle.static_rules.specs.Walks.{State, passed, tested, sooner, first_of, bound_names, view_of}
use Rattle.static_rules.proofs.Passing.{passed-none, passed-passed, passed-test}

pub opened-names : (s : State) (name : List ℕ) → (opened s name).names ≡ with_slot s.names name (Local s.number)
unfolding opened
opened-names s name = refl

pub opened-number : (s : State) (name : List ℕ) → (opened s name).number ≡ s.number + 1
unfolding opened
opened-number s name = refl

pub opened_any-names : (s : State) (x : Option (Placed (List ℕ))) → (opened_any s x).names ≡ with_any s.names x s.number
unfolding opened opened_any
opened_any-names s None = refl
opened_any-names s (Some x) = refl

pub opened_any-number : (s : State) (x : Option (Placed (List ℕ))) → (opened_any s x).number ≡ past s.number (any_name x)
unfolding opened opened_any
opened_any-number s None = omega arith
opened_any-number s (Some x) = omega arith

drop-one : (xs : List (List ℕ × Slot)) (x : List ℕ × Slot) → drop (length (x ∷ xs) - length xs) (x ∷ xs) ≡ xs
drop-one xs x = let e : length (x ∷ xs) - length xs ≡ 1 = omega arith in ap (λ k. drop k (x ∷ xs)) e

drop-none : (xs : List (List ℕ × Slot)) → drop (length xs - length xs) xs ≡ xs
drop-none xs = let e : length xs - length xs ≡ 0 = omega arith in ap (λ k. drop k xs) e

same_state : (functions : List Callee) (v w : List (List ℕ × Slot)) (n m : ℕ) (f : Option Refusal) → v ≡ w → n ≡ m
    → (let x : State = record { names = record { variables = v; functions = functions }; number = n; first = f } in x) ≡ (let x : State = record { names = record { variables = w; functions = functions }; number = m; first = f } in x)
same_state functions v w n m f h g =
    ap (λ y. let x : State = record { names = record { variables = y; functions = functions }; number = n; first = f } in x) h
    ∙ ap (λ k. let x : State = record { names = record { variables = w; functions = functions }; number = k; first = f } in x) g

pub closed-opened : (s : State) (name : List ℕ) (ms : List MentionAt) (bs : List (List ℕ)) → closed (passed (opened s name) ms bs) (length s.names.variables) ≡ passed s ms (name ∷ bs)
unfolding closed passed opened
closed-opened s name ms bs = same_state s.names.functions _ _ _ _ _ (drop-one s.names.variables (name, Local s.number)) (omega arith)

pub closed-opened_any : (s : State) (x : Option (Placed (List ℕ))) (ms : List MentionAt) (bs : List (List ℕ)) → closed (passed (opened_any s x) ms bs) (length s.names.variables) ≡ passed s ms (any_name x ++ bs)
unfolding closed passed opened opened_any
closed-opened_any s None ms bs = same_state s.names.functions _ _ _ _ _ (drop-none s.names.variables) refl
closed-opened_any s (Some x) ms bs = same_state s.names.functions _ _ _ _ _ (drop-one s.names.variables (x.name, Local s.number)) (omega arith)

pub closed-entered : (s : State) (ms ns : List MentionAt) (bs cs : List (List ℕ)) (names : Names) → Extends s.names names
    → closed (passed (entered s ms bs names) ns cs) (length s.names.variables) ≡ passed (passed s ms bs) ns cs
unfolding closed passed entered
closed-entered s ms ns bs cs names h =
    ap (λ f. let x : State = record { names = record { variables = drop (length names.variables - length s.names.variables) names.variables; functions = f }; number = past (past s.number bs) cs; first = sooner (sooner s.first (first_of ms)) (first_of ns) } in x) h.functions
    ∙ same_state s.names.functions _ _ _ _ _ h.variables refl

pub numbered-names : (s : State) → (numbered s).names ≡ s.names
unfolding numbered
numbered-names s = refl

pub numbered-number : (s : State) → (numbered s).number ≡ s.number + 1
unfolding numbered
numbered-number s = refl

pub bound-numbered : (s : State) (name : List ℕ) (n : ℕ) (ms : List MentionAt) (bs : List (List ℕ)) → bound_to (passed (numbered s) ms bs) name n ≡ entered s ms (name ∷ bs) (with_slot s.names name (Local n))
unfolding bound_to passed numbered entered
bound-numbered s name n ms bs = same_state s.names.functions _ _ _ _ _ refl (omega arith)

pub bound-for : (s : State) (name : List ℕ) (n : ℕ) (position : Option (Placed (List ℕ))) (m : ℕ) (ms : List MentionAt) (bs : List (List ℕ))
    → bound_for (passed (numbered s) ms bs) name n position m ≡ entered s ms (name ∷ bs) (with_any (with_slot s.names name (Local n)) position m)
unfolding bound_for passed numbered entered
bound-for s name n None m ms bs = same_state s.names.functions _ _ _ _ _ refl (omega arith)
bound-for s name n (Some x) m ms bs = same_state s.names.functions _ _ _ _ _ refl (omega arith)

numbered-passed : (s : State) (ms : List MentionAt) (name : List ℕ) → numbered (passed s ms []) ≡ passed s ms (name ∷ [])
unfolding numbered passed
numbered-passed s ms name = same_state s.names.functions _ _ _ _ _ refl (omega arith)

pub position-tested : (s : State) (variable x : Placed (List ℕ)) → numbered (tested s (bytes_eq x.name variable.name) PositionTwice x.place) ≡ passed s (mention_at x.place (counts_positions x.name variable.name) ∷ []) (x.name ∷ [])
position-tested s variable x =
    ap numbered (sym (passed-test s (mention_at x.place (counts_positions x.name variable.name)) (bytes_eq x.name variable.name) PositionTwice refl))
    ∙ numbered-passed s (mention_at x.place (counts_positions x.name variable.name) ∷ []) x.name

pub ruleset positions = (position-tested)

-- what a clause binds stands before what was bound
pub extends-none : (s : Names) → Extends s s
extends-none s = record { functions = refl; variables = drop-none s.variables; longer = omega arith }

longer-drop : (xs ys zs : List (List ℕ × Slot)) → length xs ≤ length ys → length ys ≤ length zs → drop (length ys - length xs) ys ≡ xs → drop (length zs - length ys) zs ≡ ys → drop (length zs - length xs) zs ≡ xs
longer-drop xs ys zs h g e f =
    let split : length zs - length xs ≡ (length zs - length ys) + (length ys - length xs) = omega arith in
    ap (λ k. drop k zs) split ∙ sym (drop-drop (length ys - length xs) (length zs - length ys) zs) ∙ ap (drop (length ys - length xs)) f ∙ e

pub extends-trans : (s t u : Names) → Extends s t → Extends t u → Extends s u
extends-trans s t u h g =
    let a = h.longer in
    let b = g.longer in
    record { functions = g.functions ∙ h.functions; variables = longer-drop s.variables t.variables u.variables a b h.variables g.variables; longer = omega arith }

pub extends-one : (s : Names) (name : List ℕ) (slot : Slot) → Extends s (with_slot s name slot)
extends-one s name slot = record { functions = refl; variables = drop-one s.variables (name, slot); longer = omega arith }

pub extends-keys : (s : Names) (n : ℕ) (ks : PlainGroupVars (List ℕ) (List ℕ) TypeName) → Extends s (after_keys s n ks)
extends-keys s n p.no_group_vars = extends-none s
extends-keys s n (p.more_group_vars (p.stream_group_var variable) ks) = extends-trans s (with_slot s variable.name (Local n)) (after_keys (with_slot s variable.name (Local n)) (past n (variable.name ∷ [])) ks) (extends-one s variable.name (Local n)) (extends-keys (with_slot s variable.name (Local n)) (past n (variable.name ∷ [])) ks)
extends-keys s n (p.more_group_vars (p.computed_group_var variable value) ks) = extends-trans s (with_slot s variable.name (Local n)) (after_keys (with_slot s variable.name (Local n)) (past n (variable.name ∷ binders.binders value)) ks) (extends-one s variable.name (Local n)) (extends-keys (with_slot s variable.name (Local n)) (past n (variable.name ∷ binders.binders value)) ks)

pub extends-clause : (s : Names) (n : ℕ) (c : PlainClause (List ℕ) (List ℕ) TypeName) → Extends s (after_clause s n c)
extends-clause s n (p.for_clause variable t allowing_empty None source) = extends-one s variable.name (Local n)
extends-clause s n (p.for_clause variable t allowing_empty (Some x) source) = extends-trans s (with_slot s variable.name (Local n)) (with_slot (with_slot s variable.name (Local n)) x.name (Local (n + 1))) (extends-one s variable.name (Local n)) (extends-one (with_slot s variable.name (Local n)) x.name (Local (n + 1)))
extends-clause s n (p.let_clause variable t value) = extends-one s variable.name (Local n)
extends-clause s n (p.where_clause place test) = extends-none s
extends-clause s n (p.group_clause place keys) = extends-keys s n keys
extends-clause s n (p.order_clause place stable keys) = extends-none s
extends-clause s n (p.count_clause place variable) = extends-one s variable.name (Local n)

pub extends-clauses : (s : Names) (n : ℕ) (cs : PlainClauses (List ℕ) (List ℕ) TypeName) → Extends s (after_clauses s n cs)
extends-clauses s n p.no_clauses = extends-none s
extends-clauses s n (p.more_clauses c cs) = extends-trans s (after_clause s n c) (after_clauses (after_clause s n c) (past n (binders.clause_binders c)) cs) (extends-clause s n c) (extends-clauses (after_clause s n c) (past n (binders.clause_binders c)) cs)

pub extends-binds : (s : Names) (n : ℕ) (bs : PlainBinds (List ℕ) (List ℕ) TypeName) → Extends s (after_binds s n bs)
extends-binds s n p.no_binds = extends-none s
extends-binds s n (p.more_binds (p.bind_node variable t source) bs) = extends-trans s (with_slot s variable.name (Local n)) (after_binds (with_slot s variable.name (Local n)) (past n (variable.name ∷ binders.binders source)) bs) (extends-one s variable.name (Local n)) (extends-binds (with_slot s variable.name (Local n)) (past n (variable.name ∷ binders.binders source)) bs)

-- what the rules see behind a clause is what the walk has bound
pub seen-keys : (s : Names) (n : ℕ) (ks : PlainGroupVars (List ℕ) (List ℕ) TypeName) → bound_names (after_keys s n ks).variables ≡ views.after_keys (bound_names s.variables) ks
seen-keys s n p.no_group_vars = refl
seen-keys s n (p.more_group_vars (p.stream_group_var variable) ks) = seen-keys (with_slot s variable.name (Local n)) (past n (variable.name ∷ [])) ks
seen-keys s n (p.more_group_vars (p.computed_group_var variable value) ks) = seen-keys (with_slot s variable.name (Local n)) (past n (variable.name ∷ binders.binders value)) ks

pub seen-clause : (s : Names) (n : ℕ) (c : PlainClause (List ℕ) (List ℕ) TypeName) → bound_names (after_clause s n c).variables ≡ views.after_clause (bound_names s.variables) c
seen-clause s n (p.for_clause variable t allowing_empty None source) = refl
seen-clause s n (p.for_clause variable t allowing_empty (Some x) source) = refl
seen-clause s n (p.let_clause variable t value) = refl
seen-clause s n (p.where_clause place test) = refl
seen-clause s n (p.group_clause place keys) = seen-keys s n keys
seen-clause s n (p.order_clause place stable keys) = refl
seen-clause s n (p.count_clause place variable) = refl

pub seen-clauses : (s : Names) (n : ℕ) (cs : PlainClauses (List ℕ) (List ℕ) TypeName) → bound_names (after_clauses s n cs).variables ≡ views.after_clauses (bound_names s.variables) cs
seen-clauses s n p.no_clauses = refl
seen-clauses s n (p.more_clauses c cs) = seen-clauses (after_clause s n c) (past n (binders.clause_binders c)) cs ∙ ap (λ names. views.after_clauses names cs) (seen-clause s n c)

pub seen-binds : (s : Names) (n : ℕ) (bs : PlainBinds (List ℕ) (List ℕ) TypeName) → bound_names (after_binds s n bs).variables ≡ views.after_binds (bound_names s.variables) bs
seen-binds s n p.no_binds = refl
seen-binds s n (p.more_binds (p.bind_node variable t source) bs) = seen-binds (with_slot s variable.name (Local n)) (past n (variable.name ∷ binders.binders source)) bs

pub view-slot : (item : Bool) (s : Names) (name : List ℕ) (slot : Slot) → view_of item (with_slot s name slot) ≡ seeing (view_of item s) (name ∷ bound_names s.variables)
view-slot item s name slot = refl

pub view-any : (item : Bool) (s : Names) (x : Option (Placed (List ℕ))) (n : ℕ) → view_of item (with_any s x n) ≡ seeing (view_of item s) (and_any (bound_names s.variables) x)
view-any item s None n = refl
view-any item s (Some x) n = refl

pub entered-names : (s : State) (ms : List MentionAt) (bs : List (List ℕ)) (names : Names) → (entered s ms bs names).names ≡ names
unfolding entered
entered-names s ms bs names = refl

pub entered-number : (s : State) (ms : List MentionAt) (bs : List (List ℕ)) (names : Names) → (entered s ms bs names).number ≡ past s.number bs
unfolding entered
entered-number s ms bs names = refl

with_names : State → Names → State
with_names s names = record s { names = names }

pub entered-entered : (s : State) (ms ns : List MentionAt) (bs cs : List (List ℕ)) (names inner : Names) → entered (entered s ms bs names) ns cs inner ≡ entered s (ms ++ ns) (bs ++ cs) inner
unfolding entered passed with_names
entered-entered s ms ns bs cs names inner = ap (λ t. with_names t inner) (passed-passed s ms ns bs cs)

pub entered-none : (s : State) → entered s [] [] s.names ≡ s
unfolding entered passed
entered-none s = passed-none s

pub ruleset scopes = (opened-names, opened-number, opened_any-names, opened_any-number, closed-opened, closed-opened_any, numbered-names, numbered-number, bound-numbered, bound-for, view-slot, view-any)
