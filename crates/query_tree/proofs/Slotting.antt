-- The slots that clauses bind. For other crates too.
use Rattle.std.proofs.Common.{◌≡◌, Option, Some, None, List, [], ◌∷◌, ◌++◌, refl, sym, ap, ◌∙◌}
use Rattle.std.specs.Prelude.{fold}
use Rattle.std.proofs.lemmas.List.{append_assoc, append-nil}
use Rattle.std.proofs.lemmas.Grind.{fold-append}
use Rattle.query_tree.specs.declared.names.Placed.{Placed}
use Rattle.query_tree.specs.Plain as p
use Rattle.query_tree.specs.Plain.{PlainClause, PlainClauses, PlainGroupVars}
use Rattle.query_tree.specs.Scoped.{Unnumbered, unnumbered, any_scope, key_slot, keys_scope, clause_scope, clauses_scope, entered_last, and_slots, clause_slots}

-- what is bound behind clauses is what stood before them, with their slots entered in order
module _ {S V : Type 0} (enter : S → V → S) where
  abbrev pub entered : S → Unnumbered → V → S
  entered s n v = enter s v

  last-entered : (s : S) (vs : List V) (v : V) → fold enter s (entered_last vs tt v) ≡ enter (fold enter s vs) v
  last-entered s vs v = fold-append enter s vs (v ∷ [])

  any-entered : (s : S) (vs : List V) (x : Option (Placed V)) → fold enter s (any_scope entered_last vs tt x) ≡ any_scope entered (fold enter s vs) tt x
  any-entered s vs None = refl
  any-entered s vs (Some v) = last-entered s vs v.name

module _ {S V F T : Type 0} (enter : S → V → S) where
  keys-entered : (s : S) (vs : List V) (ks : PlainGroupVars V F T) → fold enter s (keys_scope entered_last unnumbered vs tt ks) ≡ keys_scope (entered enter) unnumbered (fold enter s vs) tt ks
  keys-entered s vs p.no_group_vars = refl
  keys-entered s vs (p.more_group_vars k ks) = keys-entered s (entered_last vs tt (key_slot k)) ks ∙ ap (λ t. keys_scope (entered enter) unnumbered t tt ks) (last-entered enter s vs (key_slot k))

  clause-entered : (s : S) (vs : List V) (c : PlainClause V F T) → fold enter s (clause_scope entered_last unnumbered vs tt c) ≡ clause_scope (entered enter) unnumbered (fold enter s vs) tt c
  clause-entered s vs (p.for_clause variable t allowing_empty position source) = any-entered enter s (entered_last vs tt variable.name) position ∙ ap (λ t. any_scope (entered enter) t tt position) (last-entered enter s vs variable.name)
  clause-entered s vs (p.let_clause variable t value) = last-entered enter s vs variable.name
  clause-entered s vs (p.where_clause place test) = refl
  clause-entered s vs (p.group_clause place keys) = keys-entered s vs keys
  clause-entered s vs (p.order_clause place stable keys) = refl
  clause-entered s vs (p.count_clause place variable) = last-entered enter s vs variable.name

  pub clauses-entered : (s : S) (vs : List V) (cs : PlainClauses V F T) → fold enter s (and_slots vs cs) ≡ clauses_scope (entered enter) unnumbered (fold enter s vs) tt cs
  clauses-entered s vs p.no_clauses = refl
  clauses-entered s vs (p.more_clauses c cs) = clauses-entered s (clause_scope entered_last unnumbered vs tt c) cs ∙ ap (λ t. clauses_scope (entered enter) unnumbered t tt cs) (clause-entered s vs c)

-- ---- the slots of clauses, one clause behind the other

-- a list to which the elements of another are added is both, one behind the other
joined : {V : Type 0} (us vs : List V) → fold (λ ws v. ws ++ v ∷ []) us vs ≡ us ++ vs
joined us [] = sym (append-nil us)
joined us (v ∷ vs) = joined (us ++ v ∷ []) vs ∙ append_assoc us (v ∷ []) vs

pub and_slots-append : {V F T : Type 0} (vs : List V) (cs : PlainClauses V F T) → and_slots vs cs ≡ vs ++ clause_slots cs
and_slots-append vs cs = sym (clauses-entered (λ ws v. ws ++ v ∷ []) vs [] cs) ∙ joined vs (clause_slots cs)
