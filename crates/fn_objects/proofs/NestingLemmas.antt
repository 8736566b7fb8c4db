-- What stands inside of items, as parts of lists.
use Rattle.std.proofs.Common.{◌≡◌, List, [], ◌∷◌, ◌++◌, refl, ap}
use Rattle.std.specs.List.{flat_map}
use Rattle.item_tree.specs.Datum.{Datum, values}
use Rattle.value_rules.specs.Objects.{flat, flat_data, parts, parts_of_data}

pub flat_values : (vs : List Datum) → flat_data (values vs) ≡ flat_map flat vs
flat_values [] = refl
flat_values (v ∷ vs) = ap (λ ws. flat v ++ ws) (flat_values vs)

pub parts_values : (vs : List Datum) → parts_of_data (values vs) ≡ flat_map parts vs
parts_values [] = refl
parts_values (v ∷ vs) = ap (λ ws. parts v ++ ws) (parts_values vs)
