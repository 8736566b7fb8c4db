-- Lookups in the stack of the walk.
use Rattle.std.proofs.Common.{◌≡◌, ℕ, ◌-◌, Bool, true, false, cond, not, ◌||◌, Some, is_some, List, [], ◌∷◌, length, drop, refl, sym, ap, ◌∙◌, arith}
use Rattle.std.specs.Prelude.{unwrap_or}
use Rattle.std.specs.Str.{bytes_eq}
use Rattle.query_tree.specs.declared.bound.Slot.{Slot}
use Rattle.query_tree.specs.declared.bound.Slot.TheVariants.{Local}
use Rattle.static_rules.specs.declared.rules.Rule.TheVariants.{UnboundVariable, NoStreamVariable}
use Rattle.static_rules.specs.Views.{has_name}
use Rattle.static_rules.specs.Mentions.{mention_at, reads, groups_by}
use Rattle.static_rules.specs.Compiling.{Names, slot_in}
use Rattle.static_rules.proofs.Passing.{passed-test}
use Rattle.static_rules.specs.Walks.{State, passed, bound_names, slot_found, tested}
use Rattle.name_scopes.specs.Scopes.{is_bound}
use Rattle.static_rules.specs.Behind.{below}

pub has-found : (bs : List (List ℕ × Slot)) (name : List ℕ) → has_name (bound_names bs) name ≡ is_some (slot_found bs name)
has-found [] name = refl
has-found (b ∷ bs) name = by (bytes_eq b.0 name) (has-found bs name)
  where
    by : (x : Bool) → has_name (bound_names bs) name ≡ is_some (slot_found bs name) → (x || has_name (bound_names bs) name) ≡ is_some (cond x (Some b.1) (slot_found bs name))
    by true h = refl
    by false h = h

pub slot-found : (bs : List (List ℕ × Slot)) (name : List ℕ) → unwrap_or (slot_found bs name) (Local 0) ≡ slot_in bs name
slot-found [] name = refl
slot-found (b ∷ bs) name = by (bytes_eq b.0 name) (slot-found bs name)
  where
    by : (x : Bool) → unwrap_or (slot_found bs name) (Local 0) ≡ slot_in bs name → unwrap_or (cond x (Some b.1) (slot_found bs name)) (Local 0) ≡ cond x b.1 (slot_in bs name)
    by true h = refl
    by false h = h

pub read-tested : (s : State) (name : List ℕ) (place : ℕ) → tested s (not (is_some (slot_found s.names.variables name))) UnboundVariable place ≡ passed s (mention_at place (reads name (bound_names s.names.variables)) ∷ []) []
read-tested s name place =
    ap (λ b. tested s (not b) UnboundVariable place) (sym (has-found s.names.variables name))
    ∙ sym (passed-test s (mention_at place (reads name (bound_names s.names.variables))) (not (has_name (bound_names s.names.variables) name)) UnboundVariable refl)

pub ruleset reading = (slot-found, read-tested)

pub un-not : (a b : Bool) → not a ≡ b → a ≡ not b
un-not true b h = ap not h
un-not false b h = ap not h

pub group-tested : (s : State) (name : List ℕ) (stream : List (List ℕ)) (place : ℕ) → tested s (not (has_name stream name)) NoStreamVariable place ≡ passed s (mention_at place (groups_by name stream) ∷ []) []
group-tested s name stream place = sym (passed-test s (mention_at place (groups_by name stream)) (not (has_name stream name)) NoStreamVariable refl)

-- whether a name is among bindings
pub bound-named : (bs : List (List ℕ × Slot)) (name : List ℕ) → is_bound bs name ≡ has_name (bound_names bs) name
bound-named [] name = refl
bound-named (b ∷ bs) name = ap (λ t. bytes_eq b.0 name || t) (bound-named bs name)

-- all that is bound is among so many
pub all-below : (s : Names) (mark : ℕ) → mark ≡ length s.variables → below mark s ≡ s
all-below s mark h =
    let e : length s.variables - mark ≡ 0 = omega arith in
    ap (λ n. let t : Names = record s { variables = drop n s.variables } in t) e
