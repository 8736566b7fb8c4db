-- Different names in order of first appearance, as they are told one by one.
use Rattle.std.specs.Prelude.{ℕ, List, [], ◌∷◌, ◌++◌, fold, if◌then◌else◌}
use Rattle.std.specs.List.{list_any, filter_map}
use Rattle.std.specs.Str.{bytes_eq}
use Rattle.seq_types.specs.declared.types.SeqType.{SeqType}
use Rattle.query_tree.specs.declared.bound.Slot.{Slot}
use Rattle.query_tree.specs.declared.bound.Target.{Target}
use Rattle.query_tree.specs.Plain as p
use Rattle.query_tree.specs.Plain.{Form}
use Rattle.query_tree.specs.Bound.{BoundTree}
use Rattle.query_tree.specs.Calls.{own_call}
use Rattle.query_tree.specs.Inputs.{names_read, all_names}

abbrev pub with_name : List (List ℕ) → List ℕ → List (List ℕ)
with_name found name =
    if list_any (λ n. bytes_eq n name) found then found else found ++ name ∷ []

unfoldable pub with_names : List (List ℕ) → List (List ℕ) → List (List ℕ)
with_names found names = fold with_name found names

-- the names that an expression reads itself, by its form
abbrev pub form_names : Form Slot Target SeqType → List (List ℕ)
form_names (p.call_form function arguments) = names_read function
form_names _ = []

-- those that these trees read, without the trees in them
unfoldable pub trees_names : List BoundTree → List (List ℕ)
trees_names ts = all_names (filter_map own_call ts)
