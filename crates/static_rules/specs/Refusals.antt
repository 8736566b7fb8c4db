-- The static refusal of a query: the least place at which a rule is broken, and there the least
-- rule.
use Rattle.std.specs.Prelude.{◌≡◌, ℕ, ◌≤◌, Bool, true, false, ◌&&◌, ◌||◌, ◌==◌, nat_lt, Option, Some, None, List, [], ◌∷◌, map, filter, if◌then◌else◌}
use Rattle.std.specs.List.{list_any, flat_map}
use Rattle.query_tree.specs.NamedViews.{NamedQuery}
use Rattle.static_rules.specs.Mentions.{MentionAt, query_mentions}
use Rattle.static_rules.specs.declared.rules.Refusal.{Refusal}
use Rattle.static_rules.specs.declared.rules.Rule.{Rule}
use Rattle.static_rules.specs.Rules.{rules, rank, breaks}

-- whether the rule is broken at this place of the query
abbrev pub is_broken : NamedQuery → Rule → ℕ → Bool
is_broken q rule place =
    list_any (λ m. m.place == place && breaks m.mention rule) (query_mentions q)

pub record IsRefusal (q : NamedQuery) (r : Refusal) : Type 0 where
  pub broken : is_broken q r.rule r.place ≡ true
  pub first : (rule : Rule) (place : ℕ) → is_broken q rule place ≡ true → r.place ≤ place
  pub least : (rule : Rule) → is_broken q rule r.place ≡ true → rank r.rule ≤ rank rule

-- the same as a function: the earliest of all that is broken
abbrev pub refusals_at : MentionAt → List Refusal
refusals_at m =
    map (λ rule. record { place = m.place; rule = rule }) (filter (breaks m.mention) rules)

abbrev pub comes_before : Refusal → Refusal → Bool
comes_before a b =
    nat_lt a.place b.place || a.place == b.place && nat_lt (rank a.rule) (rank b.rule)

abbrev pub earlier_of : Refusal → Option Refusal → Option Refusal
earlier_of a None = Some a
earlier_of a (Some b) = if comes_before b a then Some b else Some a

abbrev pub earliest : List Refusal → Option Refusal
earliest [] = None
earliest (r ∷ rs) = earlier_of r (earliest rs)

abbrev pub refusal : NamedQuery → Option Refusal
refusal q = earliest (flat_map refusals_at (query_mentions q))

-- the function gives what the relation says, and nothing where no rule is broken
pub record RefusalsAreExact : Type 0 where
  pub found : (q : NamedQuery) (r : Refusal) → refusal q ≡ Some r → IsRefusal q r
  pub none : (q : NamedQuery) → refusal q ≡ None → (rule : Rule) (place : ℕ)
      → is_broken q rule place ≡ false
