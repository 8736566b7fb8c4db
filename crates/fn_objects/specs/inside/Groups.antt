-- The values of each key.
use Rattle.std.specs.Prelude.{◌≡◌, ℕ, ◌<◌, if◌then◌else◌, List, [], ◌∷◌, ◌++◌, map, Option, Some, None, option_map, unwrap_or}
use Rattle.std.specs.BTreeMap.{get}
use Rattle.std.specs.Cmp.Lexicographic.{slice_cmp}
use Rattle.std.specs.Ordering.{nat_cmp}
use Rattle.std.specs.Str.{bytes_eq}
use Rattle.item_tree.specs.declared.code.Code.TheVariants.{PJDY0002}
use Rattle.item_tree.specs.declared.fault.OpFault.{OpFault}
use Rattle.item_tree.specs.declared.fault.OpFault.TheVariants.{Raised, NoMemory}
use Rattle.item_tree.specs.declared.item.Item.{Item}
use Rattle.item_tree.specs.Datum.{Datum, depth}
use Rattle.item_tree.specs.Item.{datums}
use Rattle.value_rules.specs.Objects.{different_keys, values_at, is_among, gathered}
use Rattle.fn_objects.specs.declared.gathering.Groups.{Groups}

-- the values of this key among the pairs, if it is there
abbrev pub group_of : List (List ℕ × Datum) → List ℕ → Option (List Datum)
group_of ps k = if is_among (map (λ p. p.0) ps) k then Some (values_at k ps) else None

-- these pairs were added, in this order
pub record IsGrouped (groups : Groups) (ps : List (List ℕ × Datum)) : Type 0 where
  pub ordered : groups.keys.items ≡ different_keys ps
  pub found : (k : List ℕ)
      → option_map (λ v. datums v.items) (get (λ a b. slice_cmp nat_cmp a b) groups.values k)
      ≡ group_of ps k

-- these pairs were added, the values of this key were taken out, and the key has its place
pub record IsTaken (groups : Groups) (ps : List (List ℕ × Datum)) (key : List ℕ)
    (values : List Item) : Type 0 where
  pub ordered : (v : Datum) → groups.keys.items ≡ different_keys (ps ++ (key, v) ∷ [])
  pub taken : datums values ≡ values_at key ps
  pub others : (k : List ℕ)
      → option_map (λ v. datums v.items) (get (λ a b. slice_cmp nat_cmp a b) groups.values k)
      ≡ (if bytes_eq key k then None else group_of ps k)

-- the values that stand at this key
abbrev pub values_in : Groups → List ℕ → List Datum
values_in groups k =
    unwrap_or (option_map (λ v. datums v.items)
    (get (λ a b. slice_cmp nat_cmp a b) groups.values k)) []

-- the pairs of the object
abbrev pub group_pairs : Groups → List (List ℕ × Datum)
group_pairs groups = map (λ k. (k, gathered (values_in groups k))) groups.keys.items

-- the value is too deep, or memory ran out
abbrev pub IsTooDeep : Datum → OpFault → Type 0
IsTooDeep v (Raised e) = (e ≡ PJDY0002) × (128 < depth v)
IsTooDeep v NoMemory = Unit {0}
