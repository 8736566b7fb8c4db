-- The states behind the parts that bind variables for what follows them.
use Rattle.std.specs.Prelude.{ℕ, ◌-◌, Bool, List, length, take, drop}
use Rattle.query_tree.specs.declared.names.TypeName.{TypeName}
use Rattle.query_tree.specs.Plain.{PlainBind, PlainBinds, PlainClause, PlainClauses, PlainGroupVar, PlainGroupVars}
use Rattle.static_rules.specs.Mentions.{bind_mentions, binds_mentions, clause_mentions, clauses_mentions, group_var_mentions, group_vars_mentions}
use Rattle.query_tree.specs.Binders.{bind_binders, binds_binders, clause_binders, clauses_binders, group_var_binders, group_vars_binders}
use Rattle.static_rules.specs.Compiling.{Names, after_bind, after_binds, after_clause, after_clauses, after_key, after_keys}
use Rattle.static_rules.specs.Walks.{State, view_of, bound_names}
use Rattle.static_rules.specs.Openings.{entered}

abbrev pub behind_bind : State → Bool → PlainBind (List ℕ) (List ℕ) TypeName → State
behind_bind s item b =
    entered s (bind_mentions (view_of item s.names) b) (bind_binders b)
    (after_bind s.names s.number b)

abbrev pub behind_binds : State → Bool → PlainBinds (List ℕ) (List ℕ) TypeName → State
behind_binds s item bs =
    entered s (binds_mentions (view_of item s.names) bs) (binds_binders bs)
    (after_binds s.names s.number bs)

-- the names that were bound since so many variables were, and those that were bound before
abbrev pub stream_of : ℕ → Names → List (List ℕ)
stream_of base s = bound_names (take (length s.variables - base) s.variables)

abbrev pub below : ℕ → Names → Names
below mark s = record s { variables = drop (length s.variables - mark) s.variables }

-- the states behind the clauses of a FLWOR before which so many variables were bound
abbrev pub behind_clause : State → Bool → ℕ → PlainClause (List ℕ) (List ℕ) TypeName → State
behind_clause s item base c =
    entered s (clause_mentions (view_of item s.names) (stream_of base s.names) c) (clause_binders c)
    (after_clause s.names s.number c)

abbrev pub behind_clauses : State → Bool → ℕ → PlainClauses (List ℕ) (List ℕ) TypeName → State
behind_clauses s item base cs =
    entered s (clauses_mentions (view_of item s.names) (stream_of base s.names) cs)
    (clauses_binders cs) (after_clauses s.names s.number cs)

-- and behind the keys of a grouping before which so many were
abbrev pub behind_key : State → Bool → ℕ → ℕ → PlainGroupVar (List ℕ) (List ℕ) TypeName → State
behind_key s item base mark k =
    entered s (group_var_mentions (view_of item s.names) (stream_of base (below mark s.names)) k)
    (group_var_binders k) (after_key s.names s.number k)

abbrev pub behind_keys : State → Bool → ℕ → ℕ → PlainGroupVars (List ℕ) (List ℕ) TypeName → State
behind_keys s item base mark ks =
    entered s (group_vars_mentions (view_of item s.names) (stream_of base (below mark s.names)) ks)
    (group_vars_binders ks) (after_keys s.names s.number ks)
