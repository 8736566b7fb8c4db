-- How the walk's state changes where scopes open and close.
use Rattle.std.specs.Prelude.{◌≡◌, ℕ, ◌+◌, ◌-◌, ◌≤◌, Option, Some, None, List, length, drop}
use Rattle.query_tree.specs.declared.bound.Slot.TheVariants.{Local}
use Rattle.query_tree.specs.declared.names.Placed.{Placed}
use Rattle.static_rules.specs.Mentions.{MentionAt}
use Rattle.static_rules.specs.Compiling.{Names, past, with_slot, with_any}
use Rattle.static_rules.specs.Walks.{State, sooner, first_of}

-- the state where a variable of this name is bound besides, with the next number
unfoldable pub opened : State → List ℕ → State
opened s name = record {
  names = with_slot s.names name (Local s.number);
  number = s.number + 1;
  first = s.first;
}

unfoldable pub opened_any : State → Option (Placed (List ℕ)) → State
opened_any s None = s
opened_any s (Some x) = opened s x.name

-- the state where the next number is taken
unfoldable pub numbered : State → State
numbered s = record s { number = s.number + 1 }

-- the state where a variable of this name is bound besides, with this number
unfoldable pub bound_to : State → List ℕ → ℕ → State
bound_to s name n = record s { names = with_slot s.names name (Local n) }

-- the state where the variable of a `for` and its position variable, if there is one, are bound
-- besides, with these numbers
unfoldable pub bound_for : State → List ℕ → ℕ → Option (Placed (List ℕ)) → ℕ → State
bound_for s name n position m =
    record s { names = with_any (with_slot s.names name (Local n)) position m }

-- the state where what was bound since so many variables were is out of scope
unfoldable pub closed : State → ℕ → State
closed s depth =
    record s {
      names =
          record s.names { variables = drop (length s.names.variables - depth) s.names.variables };
    }

-- the state behind a part with these mentions and these bindings, where these names are in scope
unfoldable pub entered : State → List MentionAt → List (List ℕ) → Names → State
entered s ms bound names =
    record { names = names; number = past s.number bound; first = sooner s.first (first_of ms) }

-- these names, and more before them
pub record Extends (outer inner : Names) : Type 0 where
  pub functions : inner.functions ≡ outer.functions
  pub variables :
      drop (length inner.variables - length outer.variables) inner.variables ≡ outer.variables
  pub longer : length outer.variables ≤ length inner.variables
