-- The places of each name, as a map from names in UTF-8 has them.
use Rattle.std.specs.Prelude.{◌≡◌, ℕ, ◌-◌, ◌<◌, List, [], Vec, length, take}
use Rattle.std.specs.Option.{option_map_or}
use Rattle.std.specs.List.{slice_get}
use Rattle.std.specs.Ordering.{nat_cmp}
use Rattle.std.specs.Cmp.Lexicographic.{slice_cmp}
use Rattle.std.specs.Borrow.{Bor}
use Rattle.std.specs.BTreeMap.{BTreeMap, get_by}
use Rattle.std.specs.declared.alloc.Global.{Global}
use Rattle.name_scopes.specs.declared.stacks.Place.{Place}

module _ {V : Type 0} where
  abbrev pub stack_at : BTreeMap (Bor (List ℕ)) (Vec (Place V) Global) → List ℕ → List (Place V)
  stack_at m name = option_map_or (λ v. v.items) (get_by (λ k. slice_cmp nat_cmp name k.now) m) []

  abbrev pub without_last : List (Place V) → List (Place V)
  without_last ps = take (length ps - 1) ps
