-- What the laws say.
use Rattle.std.specs.Prelude.{◌≡◌, Bool, true, not, List, [], ◌∷◌, ◌++◌, Ok}
use Rattle.std.specs.List.{list_all}
use Rattle.item_tree.specs.Datum.{Datum}
use Rattle.value_rules.specs.Numbers.{is_less, is_greater, min_values, max_values}

-- v is an item of the list that goes before each earlier one, and no later one goes before it
pub record IsFirstBest (before : Datum → Datum → Bool) (vs : List Datum) (v : Datum) : Type 0 where
  pub front : List Datum
  pub back : List Datum
  pub whole : vs ≡ front ++ v ∷ back
  pub earlier : list_all (λ w. before v w) front ≡ true
  pub later : list_all (λ w. not (before w v)) back ≡ true

-- what `min` and `max` give is the first of the least, or of the greatest
pub record ExtremesAreFirst : Type 0 where
  pub least : (vs : List Datum) (v : Datum) → min_values vs ≡ Ok (v ∷ [])
      → IsFirstBest is_less vs v
  pub greatest : (vs : List Datum) (v : Datum) → max_values vs ≡ Ok (v ∷ [])
      → IsFirstBest is_greater vs v
