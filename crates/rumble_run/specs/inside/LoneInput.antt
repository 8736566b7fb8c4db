-- A query that is one input and nothing else.
use Rattle.std.specs.Prelude.{◌≡◌, ℕ, List, [], ◌∷◌, Option, None, Some, Err}
use Rattle.item_tree.specs.declared.code.Code.TheVariants.{FODC0002}
use Rattle.item_reader.specs.Reading.{Read}
use Rattle.query_meaning.specs.Outcome.{Outcome, at_place}
use Rattle.query_tree.specs.Compiled.{BoundTrees}
use Rattle.query_tree.specs.Plain.{Form, Trees, tree_node, call_form}
use Rattle.query_tree.specs.declared.bound.Slot.{Slot}
use Rattle.query_tree.specs.declared.bound.Target.{Target}
use Rattle.query_tree.specs.declared.bound.Target.TheVariants.{Lines}
use Rattle.seq_types.specs.declared.types.SeqType.{SeqType}

-- a call of `json-lines` with this name alone
abbrev pub IsCallOf : List ℕ → Form Slot Target SeqType → Type 0
IsCallOf name form =
    (arguments : Trees Slot Target SeqType) × (form ≡ call_form (Lines (name ∷ [])) arguments)

-- a query that is such a call, at this place, and declares no variable
pub record IsLoneInput (name : List ℕ) (place : ℕ) (query : BoundTrees) : Type 0 where
  pub variables : query.variables ≡ []
  pub form : Form Slot Target SeqType
  pub body : query.body ≡ tree_node place form
  pub call : IsCallOf name form

-- what an input reads as, where there is one
abbrev pub found : Option Read → Read
found None = Err FODC0002
found (Some read) = read

-- what such a query comes to
abbrev pub lone_value : Option Read → ℕ → Outcome
lone_value read place = at_place place (found read)
