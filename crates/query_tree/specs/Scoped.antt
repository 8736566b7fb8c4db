-- The scope behind a key of a grouping, a clause of a FLWOR and a binding of a quantified
-- expression. This is said once for all kinds of scopes: `enter` enters a variable, and `past` says
-- how the next variable is numbered behind those that a part binds, in text order.
use Rattle.std.specs.Prelude.{List, [], ◌∷◌, ◌++◌, Option, Some, None}
use Rattle.query_tree.specs.declared.names.Placed.{Placed}
use Rattle.query_tree.specs.Plain as p
use Rattle.query_tree.specs.Plain.{PlainBind, PlainBinds, PlainClause, PlainClauses, PlainGroupVar, PlainGroupVars}
use Rattle.query_tree.specs.Binders.{bind_binders, clause_binders, group_var_binders}

abbrev pub any_scope : {S N V : Type 0} → (S → N → V → S) → S → N → Option (Placed V) → S
any_scope enter s n None = s
any_scope enter s n (Some v) = enter s n v.name

-- the variable of a key
abbrev pub key_slot : {V F T : Type 0} → PlainGroupVar V F T → V
key_slot (p.stream_group_var variable) = variable.name
key_slot (p.computed_group_var variable value) = variable.name

abbrev pub key_scope : {S N V F T : Type 0} → (S → N → V → S) → S → N → PlainGroupVar V F T → S
key_scope enter s n k = enter s n (key_slot k)

abbrev pub keys_scope : {S N V F T : Type 0} → (S → N → V → S) → (N → List V → N) → S → N
    → PlainGroupVars V F T → S
keys_scope enter past s n p.no_group_vars = s
keys_scope enter past s n (p.more_group_vars k ks) =
    keys_scope enter past (key_scope enter s n k) (past n (group_var_binders k)) ks

abbrev pub clause_scope : {S N V F T : Type 0} → (S → N → V → S) → (N → List V → N) → S → N
    → PlainClause V F T → S
clause_scope enter past s n (p.for_clause variable t allowing_empty position source) =
    any_scope enter (enter s n variable.name) (past n (variable.name ∷ [])) position
clause_scope enter past s n (p.let_clause variable t value) = enter s n variable.name
clause_scope enter past s n (p.where_clause place test) = s
clause_scope enter past s n (p.group_clause place keys) = keys_scope enter past s n keys
clause_scope enter past s n (p.order_clause place stable keys) = s
clause_scope enter past s n (p.count_clause place variable) = enter s n variable.name

abbrev pub clauses_scope : {S N V F T : Type 0} → (S → N → V → S) → (N → List V → N) → S → N
    → PlainClauses V F T → S
clauses_scope enter past s n p.no_clauses = s
clauses_scope enter past s n (p.more_clauses c cs) =
    clauses_scope enter past (clause_scope enter past s n c) (past n (clause_binders c)) cs

abbrev pub bind_scope : {S N V F T : Type 0} → (S → N → V → S) → S → N → PlainBind V F T → S
bind_scope enter s n (p.bind_node variable t source) = enter s n variable.name

abbrev pub binds_scope : {S N V F T : Type 0} → (S → N → V → S) → (N → List V → N) → S → N
    → PlainBinds V F T → S
binds_scope enter past s n p.no_binds = s
binds_scope enter past s n (p.more_binds b bs) =
    binds_scope enter past (bind_scope enter s n b) (past n (bind_binders b)) bs

-- ---- where variables have no numbers

abbrev pub Unnumbered : Type 0
Unnumbered = Unit {0}

abbrev pub unnumbered : {V : Type 0} → Unnumbered → List V → Unnumbered
unnumbered n vs = tt

-- ---- the variables that clauses bind, in order

abbrev pub entered_last : {V : Type 0} → List V → Unnumbered → V → List V
entered_last vs n v = vs ++ v ∷ []

-- these variables, and behind them those that clauses bind: of a `for` its variable and then its
-- position, and each key of a grouping
abbrev pub and_slots : {V F T : Type 0} → List V → PlainClauses V F T → List V
and_slots vs cs = clauses_scope entered_last unnumbered vs tt cs

abbrev pub clause_slots : {V F T : Type 0} → PlainClauses V F T → List V
clause_slots cs = and_slots [] cs
