-- The tests of single mentions.
use Rattle.std.proofs.Common.{◌≡◌, ℕ, Bool, not, ◌&&◌, ◌||◌, is_some, List, [], ◌∷◌, ◌++◌, append-nil, refl, sym, ap, ◌∙◌}
use Rattle.query_tree.specs.declared.names.Placed.{Placed}
use Rattle.query_tree.specs.declared.names.TypeName.{TypeName}
use Rattle.seq_types.specs.Names.{type_named}
use Rattle.query_tree.specs.Scopes.{is_at_most_one}
use Rattle.static_rules.specs.declared.rules.Rule.TheVariants.{NoContextItem, UnknownType, UnknownCastType}
use Rattle.static_rules.specs.Mentions.{MentionAt, mention_at, reads_item, has_type, casts_to}
use Rattle.static_rules.specs.Rules.{is_empty_sequence, is_atomic_type}
use Rattle.static_rules.specs.Walks.{State, passed, tested}
use Rattle.static_rules.proofs.Passing.{passed-test, passed-passed}

pub item-tested : (s : State) (item : Bool) (place : ℕ) → tested s (not item) NoContextItem place ≡ passed s (mention_at place (reads_item item) ∷ []) []
item-tested s item place = sym (passed-test s (mention_at place (reads_item item)) (not item) NoContextItem refl)

pub type-tested : (s : State) (t : Placed TypeName) → tested s (not (is_empty_sequence t.name || is_some (type_named t.name.name t.name.parens))) UnknownType t.place ≡ passed s (mention_at t.place (has_type t.name) ∷ []) []
type-tested s t = sym (passed-test s (mention_at t.place (has_type t.name)) (not (is_empty_sequence t.name || is_some (type_named t.name.name t.name.parens))) UnknownType refl)

pub cast-tested : (s : State) (t : Placed TypeName) → tested s (not (is_atomic_type (type_named t.name.name t.name.parens) && is_at_most_one t.name.times)) UnknownCastType t.place ≡ passed s (mention_at t.place (casts_to t.name) ∷ []) []
cast-tested s t = sym (passed-test s (mention_at t.place (casts_to t.name)) (not (is_atomic_type (type_named t.name.name t.name.parens) && is_at_most_one t.name.times)) UnknownCastType refl)

pub passed-told : (s : State) (ms : List MentionAt) (bs : List (List ℕ)) (m : MentionAt) → passed (passed s ms bs) (m ∷ []) [] ≡ passed s (ms ++ m ∷ []) bs
passed-told s ms bs m = passed-passed s ms (m ∷ []) bs [] ∙ ap (passed s (ms ++ m ∷ [])) (append-nil bs)

pub ruleset telling = (passed-told)
