-- Which variables and declared functions are seen where an expression of a query stands.
use Rattle.std.specs.Prelude.{ℕ, ◌+◌, Bool, true, ◌==◌, ◌&&◌, Option, List, ◌∷◌}
use Rattle.std.specs.List.{list_any}
use Rattle.std.specs.Str.{bytes_eq}
use Rattle.query_tree.specs.declared.names.Placed.{Placed}
use Rattle.query_tree.specs.declared.names.TypeName.{TypeName}
use Rattle.query_tree.specs.Plain as p
use Rattle.query_tree.specs.Scoped.{Unnumbered, unnumbered, any_scope, key_scope, keys_scope, clause_scope, clauses_scope, bind_scope, binds_scope}
use Rattle.query_tree.specs.Plain.{Trees, PlainClause, PlainClauses, PlainGroupVar, PlainGroupVars, PlainBind, PlainBinds}

-- the plain value of a list of expressions as they were read
abbrev pub NamedTrees : Type 0
NamedTrees = Trees (List ℕ) (List ℕ) TypeName

abbrev pub argument_count : NamedTrees → ℕ
argument_count p.no_trees = 0
argument_count (p.more_trees t ts) = argument_count ts + 1

-- a declared function: its name, and how many arguments it takes
pub record Callee : Type 0 where
  pub name : List ℕ
  pub arity : ℕ

pub record View : Type 0 where
  -- the names that are bound; where a name is bound again, it stands again
  pub variables : List (List ℕ)
  pub functions : List Callee
  -- whether `$$` stands for an item
  pub item : Bool

abbrev pub has_name : List (List ℕ) → List ℕ → Bool
has_name names name = list_any (λ n. bytes_eq n name) names

abbrev pub has_callee : List Callee → List ℕ → ℕ → Bool
has_callee callees name arity = list_any (λ c. bytes_eq c.name name && c.arity == arity) callees

-- what is seen where these variables are bound
abbrev pub seeing : View → List (List ℕ) → View
seeing v names = record v { variables = names }

abbrev pub with_name : View → List ℕ → View
with_name v name = seeing v (name ∷ v.variables)

-- what a predicate sees, and what stands to the right of `!`
abbrev pub with_item : View → View
with_item v = record v { item = true }

abbrev pub enter_name : List (List ℕ) → Unnumbered → List ℕ → List (List ℕ)
enter_name names n name = name ∷ names

abbrev pub and_any : List (List ℕ) → Option (Placed (List ℕ)) → List (List ℕ)
and_any names x = any_scope enter_name names tt x

-- the names that are bound behind a binding of a quantified expression, where these are bound
-- before it
abbrev pub after_bind : List (List ℕ) → PlainBind (List ℕ) (List ℕ) TypeName → List (List ℕ)
after_bind names b = bind_scope enter_name names tt b

abbrev pub after_binds : List (List ℕ) → PlainBinds (List ℕ) (List ℕ) TypeName → List (List ℕ)
after_binds names bs = binds_scope enter_name unnumbered names tt bs

-- the same behind a key of a grouping
abbrev pub after_key : List (List ℕ) → PlainGroupVar (List ℕ) (List ℕ) TypeName → List (List ℕ)
after_key names k = key_scope enter_name names tt k

abbrev pub after_keys : List (List ℕ) → PlainGroupVars (List ℕ) (List ℕ) TypeName → List (List ℕ)
after_keys names ks = keys_scope enter_name unnumbered names tt ks

-- the same behind a clause of a FLWOR
abbrev pub after_clause : List (List ℕ) → PlainClause (List ℕ) (List ℕ) TypeName → List (List ℕ)
after_clause names c = clause_scope enter_name unnumbered names tt c

abbrev pub after_clauses : List (List ℕ) → PlainClauses (List ℕ) (List ℕ) TypeName → List (List ℕ)
after_clauses names cs = clauses_scope enter_name unnumbered names tt cs
