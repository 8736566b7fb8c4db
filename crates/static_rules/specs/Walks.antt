-- What the walk over a query has found where it stands.
use Rattle.std.specs.Prelude.{ℕ, Bool, Option, Some, None, List, map, if◌then◌else◌}
use Rattle.std.specs.List.{flat_map}
use Rattle.name_scopes.specs.Scopes.{value_found}
use Rattle.query_tree.specs.declared.bound.Slot.{Slot}
use Rattle.static_rules.specs.declared.rules.Refusal.{Refusal}
use Rattle.static_rules.specs.declared.rules.Rule.{Rule}
use Rattle.static_rules.specs.Views.{View}
use Rattle.static_rules.specs.Mentions.{MentionAt}
use Rattle.static_rules.specs.Refusals.{refusals_at, earliest, earlier_of}
use Rattle.static_rules.specs.Compiling.{Names, past}

pub record State : Type 0 where
  pub names : Names
  -- that of the next binding
  pub number : ℕ
  -- the earliest of all that is broken so far
  pub first : Option Refusal

abbrev pub bound_names : List (List ℕ × Slot) → List (List ℕ)
bound_names bs = map (λ b. b.0) bs

-- what the rules see of the names, and whether `$$` stands for an item
abbrev pub view_of : Bool → Names → View
view_of item s =
    record { variables = bound_names s.variables; functions = s.functions; item = item }

abbrev pub sooner : Option Refusal → Option Refusal → Option Refusal
sooner None b = b
sooner (Some a) b = earlier_of a b

abbrev pub first_of : List MentionAt → Option Refusal
first_of ms = earliest (flat_map refusals_at ms)

-- the state behind a part with these mentions and these bindings, whose names are out of scope
unfoldable pub passed : State → List MentionAt → List (List ℕ) → State
passed s ms bound =
    record { names = s.names; number = past s.number bound; first = sooner s.first (first_of ms) }

-- the state once the rule was tested at this place
abbrev pub tested : State → Bool → Rule → ℕ → State
tested s broken rule place =
    record s {
      first =
          sooner s.first (if broken then Some (record { place = place; rule = rule }) else None);
    }

abbrev pub slot_found : List (List ℕ × Slot) → List ℕ → Option Slot
slot_found bs name = value_found bs name
