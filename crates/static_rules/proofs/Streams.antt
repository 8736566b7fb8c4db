-- The variables of a stream are those at the top of the stack.
use Rattle.std.proofs.Common.{◌≡◌, ℕ, ◌+◌, ◌-◌, ◌≤◌, Bool, Some, None, List, [], ◌∷◌, length, take, drop, refl, ap, ◌∙◌, arith, suc}
use Rattle.query_tree.specs.declared.bound.Slot.{Slot}
use Rattle.query_tree.specs.declared.bound.Slot.TheVariants.{Local}
use Rattle.query_tree.specs.declared.names.TypeName.{TypeName}
use Rattle.query_tree.specs.Plain as p
use Rattle.query_tree.specs.Plain.{PlainClause, PlainClauses, PlainGroupVar, PlainGroupVars}
use Rattle.static_rules.specs.Views as views
use Rattle.static_rules.specs.Views.{View, seeing}
use Rattle.query_tree.specs.Binders as binders
use Rattle.static_rules.specs.Compiling.{Names, past, with_slot, after_key, after_keys, after_clause, after_clauses}
use Rattle.static_rules.specs.Walks.{view_of, bound_names}
use Rattle.static_rules.specs.Behind.{stream_of, below}
use Rattle.static_rules.proofs.Scoping.{extends-clause, extends-clauses, seen-clause, seen-clauses}

stream-slot : (base : ℕ) (s : Names) (name : List ℕ) (slot : Slot) → base ≤ length s.variables → stream_of base (with_slot s name slot) ≡ name ∷ stream_of base s
stream-slot base s name slot h =
    let e : length ((name, slot) ∷ s.variables) - base ≡ suc (length s.variables - base) = omega arith in
    ap (λ k. bound_names (take k ((name, slot) ∷ s.variables))) e

longer-slot : (base : ℕ) (s : Names) (name : List ℕ) (slot : Slot) → base ≤ length s.variables → base ≤ length (with_slot s name slot).variables
longer-slot base s name slot h = omega arith

pub stream-keys : (base : ℕ) (s : Names) (n : ℕ) (ks : PlainGroupVars (List ℕ) (List ℕ) TypeName) → base ≤ length s.variables → stream_of base (after_keys s n ks) ≡ views.after_keys (stream_of base s) ks
stream-keys base s n p.no_group_vars h = refl
stream-keys base s n (p.more_group_vars (p.stream_group_var variable) ks) h =
    stream-keys base (with_slot s variable.name (Local n)) (past n (variable.name ∷ [])) ks (longer-slot base s variable.name (Local n) h)
    ∙ ap (λ names. views.after_keys names ks) (stream-slot base s variable.name (Local n) h)
stream-keys base s n (p.more_group_vars (p.computed_group_var variable value) ks) h =
    stream-keys base (with_slot s variable.name (Local n)) (past n (variable.name ∷ binders.binders value)) ks (longer-slot base s variable.name (Local n) h)
    ∙ ap (λ names. views.after_keys names ks) (stream-slot base s variable.name (Local n) h)

pub stream-clause : (base : ℕ) (s : Names) (n : ℕ) (c : PlainClause (List ℕ) (List ℕ) TypeName) → base ≤ length s.variables → stream_of base (after_clause s n c) ≡ views.after_clause (stream_of base s) c
stream-clause base s n (p.for_clause variable t allowing_empty None source) h = stream-slot base s variable.name (Local n) h
stream-clause base s n (p.for_clause variable t allowing_empty (Some x) source) h =
    stream-slot base (with_slot s variable.name (Local n)) x.name (Local (n + 1)) (longer-slot base s variable.name (Local n) h)
    ∙ ap (λ names. x.name ∷ names) (stream-slot base s variable.name (Local n) h)
stream-clause base s n (p.let_clause variable t value) h = stream-slot base s variable.name (Local n) h
stream-clause base s n (p.where_clause place test) h = refl
stream-clause base s n (p.group_clause place keys) h = stream-keys base s n keys h
stream-clause base s n (p.order_clause place stable keys) h = refl
stream-clause base s n (p.count_clause place variable) h = stream-slot base s variable.name (Local n) h

pub longer-clause : (base : ℕ) (s : Names) (n : ℕ) (c : PlainClause (List ℕ) (List ℕ) TypeName) → base ≤ length s.variables → base ≤ length (after_clause s n c).variables
longer-clause base s n c h = let g = (extends-clause s n c).longer in omega arith

pub view-clause : (item : Bool) (s : Names) (n : ℕ) (c : PlainClause (List ℕ) (List ℕ) TypeName) → view_of item (after_clause s n c) ≡ seeing (view_of item s) (views.after_clause (bound_names s.variables) c)
view-clause item s n c =
    ap (λ f. let v : View = record { variables = bound_names (after_clause s n c).variables; functions = f; item = item } in v) (extends-clause s n c).functions
    ∙ ap (λ names. let v : View = record { variables = names; functions = s.functions; item = item } in v) (seen-clause s n c)

pub view-clauses : (item : Bool) (s : Names) (n : ℕ) (cs : PlainClauses (List ℕ) (List ℕ) TypeName) → view_of item (after_clauses s n cs) ≡ seeing (view_of item s) (views.after_clauses (bound_names s.variables) cs)
view-clauses item s n cs =
    ap (λ f. let v : View = record { variables = bound_names (after_clauses s n cs).variables; functions = f; item = item } in v) (extends-clauses s n cs).functions
    ∙ ap (λ names. let v : View = record { variables = names; functions = s.functions; item = item } in v) (seen-clauses s n cs)

-- a key is above the clause's mark, so those below it stay
pub below-key : (mark : ℕ) (s : Names) (n : ℕ) (k : PlainGroupVar (List ℕ) (List ℕ) TypeName) → mark ≤ length s.variables → below mark (after_key s n k) ≡ below mark s
below-key mark s n (p.stream_group_var variable) h =
    let e : length ((variable.name, Local n) ∷ s.variables) - mark ≡ suc (length s.variables - mark) = omega arith in
    ap (λ i. let t : Names = record { variables = drop i ((variable.name, Local n) ∷ s.variables); functions = s.functions } in t) e
below-key mark s n (p.computed_group_var variable value) h =
    let e : length ((variable.name, Local n) ∷ s.variables) - mark ≡ suc (length s.variables - mark) = omega arith in
    ap (λ i. let t : Names = record { variables = drop i ((variable.name, Local n) ∷ s.variables); functions = s.functions } in t) e

pub below-none : (s : Names) → below (length s.variables) s ≡ s
below-none s =
    let e : length s.variables - length s.variables ≡ 0 = omega arith in
    ap (λ i. let t : Names = record { variables = drop i s.variables; functions = s.functions } in t) e

pub longer-key : (mark : ℕ) (s : Names) (n : ℕ) (k : PlainGroupVar (List ℕ) (List ℕ) TypeName) → mark ≤ length s.variables → mark ≤ length (after_key s n k).variables
longer-key mark s n (p.stream_group_var variable) h = longer-slot mark s variable.name (Local n) h
longer-key mark s n (p.computed_group_var variable value) h = longer-slot mark s variable.name (Local n) h
