-- Which pairs of an object stay.
use Rattle.std.specs.Prelude.{ℕ, Bool, not, List, [], ◌∷◌}
use Rattle.std.specs.List.{flat_map}
use Rattle.item_tree.specs.Datum.{Datum, text}
use Rattle.fn_objects.specs.declared.choices.Choice.{Choice}
use Rattle.fn_objects.specs.declared.choices.Choice.TheVariants.{Named, Others}

-- the strings among these values
abbrev pub string_in : Datum → List (List ℕ)
string_in (text t) = t ∷ []
string_in _ = []

abbrev pub strings_of : List Datum → List (List ℕ)
strings_of vs = flat_map string_in vs

-- whether a key stays that is named, or is not
abbrev pub chosen : Choice → Bool → Bool
chosen Named named = named
chosen Others named = not named
