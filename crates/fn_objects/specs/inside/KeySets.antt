-- Sets of keys.
use Rattle.std.specs.Prelude.{◌≡◌, ℕ, Bool, List, map}
use Rattle.std.specs.BTreeSet.{BTreeSet, contains}
use Rattle.std.specs.Cmp.Lexicographic.{slice_cmp}
use Rattle.std.specs.Ordering.{nat_cmp}
use Rattle.std.specs.Str.{bytes_eq}
use Rattle.item_tree.specs.declared.item.Item.{Item}
use Rattle.item_tree.specs.Datum.{text}
use Rattle.item_tree.specs.Item.{datums}
use Rattle.value_rules.specs.Sequences.{firsts}
use Rattle.value_rules.specs.Objects.{is_among}

-- keys in the order of strings
abbrev pub KeySet : Type 0
KeySet = BTreeSet (List ℕ)

abbrev pub has : KeySet → List ℕ → Bool
has set k = contains (λ a b. slice_cmp nat_cmp a b) set k

-- the set has these names and no other
abbrev pub HasNames : KeySet → List (List ℕ) → Type 0
HasNames set names = (k : List ℕ) → has set k ≡ is_among names k

-- these keys were seen, and each was listed where it stood first
pub record HasKeys (seen : KeySet) (found : List Item) (ks : List (List ℕ)) : Type 0 where
  pub known : HasNames seen ks
  pub listed : datums found ≡ map text (firsts bytes_eq ks)
