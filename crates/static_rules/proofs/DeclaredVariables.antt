-- What one declared variable comes to.
use Rattle.std.proofs.Common.{◌≡◌, ℕ, Bool, false, Option, List, [], ◌∷◌, length, refl, sym, ap, ◌∙◌}
use Rattle.std.specs.Prelude.{option_map}
use Rattle.query_tree.specs.declared.bound.Slot.{Slot}
use Rattle.query_tree.specs.declared.bound.Slot.TheVariants.{Global}
use Rattle.query_tree.specs.declared.bound.Target.{Target}
use Rattle.query_tree.specs.declared.names.Placed.{Placed}
use Rattle.query_tree.specs.declared.names.TypeName.{TypeName}
use Rattle.query_tree.specs.Modules.{PlainVariable}
use Rattle.query_tree.specs.Bound.{BoundTree}
use Rattle.seq_types.specs.declared.types.SeqType.{SeqType}
use Rattle.static_rules.specs.declared.rules.Rule.TheVariants.{VariableTwice}
use Rattle.static_rules.specs.Views.{has_name}
use Rattle.static_rules.specs.Mentions.{mention_at, mentions, type_mentions, declares_variable}
use Rattle.query_tree.specs.Binders.{binders}
use Rattle.static_rules.specs.Compiling.{past, compiled, placed_type}
use Rattle.static_rules.specs.Walks.{State, passed, tested, view_of, bound_names}
use Rattle.static_rules.specs.Declarations.{variable_mentions, compiled_variable, begun, bound_global, behind_variable}
use Rattle.static_rules.proofs.Passing.{passed-names, passed-number, passed-passed, passed-test}
use Rattle.static_rules.proofs.Declaring.{begun-names, begun-number, passed-begun, bound-declared}

variable-tested : (s : State) (name : List ℕ) (place : ℕ) → tested s (has_name (bound_names s.names.variables) name) VariableTwice place ≡ passed s (mention_at place (declares_variable name (bound_names s.names.variables)) ∷ []) []
variable-tested s name place = sym (passed-test s (mention_at place (declares_variable name (bound_names s.names.variables))) (has_name (bound_names s.names.variables) name) VariableTwice refl)

-- the walk begins a declaration, tests its name, and passes its type
module _ (s begins tests typed : State) (twice : Bool) (x : PlainVariable (List ℕ) (List ℕ) TypeName)
    (e1 : begins ≡ begun s) (e2 : twice ≡ has_name (bound_names begins.names.variables) x.variable.name)
    (e3 : tests ≡ tested begins twice VariableTwice x.variable.place) (e4 : typed ≡ passed tests (type_mentions x.type) []) where
  at-type : typed ≡ passed (begun s) (mention_at x.variable.place (declares_variable x.variable.name (bound_names s.names.variables)) ∷ type_mentions x.type) []
  at-type =
      let name = x.variable.name in
      let place = x.variable.place in
      e4
      ∙ ap (λ t. passed t (type_mentions x.type) [])
      (e3
      ∙ ap (λ b. tested begins b VariableTwice place) e2
      ∙ ap (λ t. tested t (has_name (bound_names t.names.variables) name) VariableTwice place) e1
      ∙ variable-tested (begun s) name place
      ∙ ap (λ n. passed (begun s) (mention_at place (declares_variable name (bound_names n.variables)) ∷ []) []) (begun-names s))
      ∙ passed-passed (begun s) (mention_at place (declares_variable name (bound_names s.names.variables)) ∷ []) (type_mentions x.type) [] []

  same-names : typed.names ≡ s.names
  same-names = ap (λ t. t.names) at-type ∙ passed-names (begun s) (mention_at x.variable.place (declares_variable x.variable.name (bound_names s.names.variables)) ∷ type_mentions x.type) [] ∙ begun-names s

  from-none : typed.number ≡ 0
  from-none = ap (λ t. t.number) at-type ∙ passed-number (begun s) (mention_at x.variable.place (declares_variable x.variable.name (bound_names s.names.variables)) ∷ type_mentions x.type) [] ∙ ap (λ n. past {V = List ℕ} n []) (begun-number s)

  pub variable-walk : (walked ends : State) (number : ℕ) → walked ≡ passed typed (mentions (view_of false typed.names) x.value) (binders x.value) → ends ≡ bound_global walked x.variable.name number → ends ≡ behind_variable s number x
  variable-walk walked ends number e5 e6 =
      let ms = variable_mentions (view_of false s.names) x in
      let bs = binders x.value in
      e6
      ∙ ap (λ t. bound_global t x.variable.name number)
      (e5
      ∙ ap (λ n. passed typed (mentions (view_of false n) x.value) bs) same-names
      ∙ ap (λ t. passed t (mentions (view_of false s.names) x.value) bs) at-type
      ∙ passed-passed (begun s) (mention_at x.variable.place (declares_variable x.variable.name (bound_names s.names.variables)) ∷ type_mentions x.type) (mentions (view_of false s.names) x.value) [] bs
      ∙ passed-begun s ms bs)
      ∙ bound-declared s ms (length bs) s.names x.variable.name number

  pub variable-tree : (number : ℕ) (slot : Slot) (type : Option (Placed SeqType)) (value : BoundTree) → slot ≡ Global number → type ≡ option_map placed_type x.type → value ≡ compiled typed.names typed.number x.value
      → (let t : PlainVariable Slot Target SeqType = record { variable = record { place = x.variable.place; name = slot }; type = type; value = value } in t) ≡ compiled_variable s.names number x
  variable-tree number slot type value h g f =
      ap (λ y. let t : PlainVariable Slot Target SeqType = record { variable = record { place = x.variable.place; name = y }; type = type; value = value } in t) h
      ∙ ap (λ y. let t : PlainVariable Slot Target SeqType = record { variable = record { place = x.variable.place; name = Global number }; type = y; value = value } in t) g
      ∙ ap (λ y. let t : PlainVariable Slot Target SeqType = record { variable = record { place = x.variable.place; name = Global number }; type = option_map placed_type x.type; value = y } in t)
      (f ∙ ap (λ n. compiled n typed.number x.value) same-names ∙ ap (λ k. compiled s.names k x.value) from-none)
