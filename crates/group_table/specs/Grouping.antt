-- What a table of groups keeps, and the lists that it stands for.
use Rattle.std.specs.Prelude.{◌≡◌, ℕ, ◌<◌, List, [], ◌∷◌, map, refl}
use Rattle.std.specs.Coded.{Coded, code_by, coded×, coded_ℕ, coded_list, coded_option}
use Rattle.item_tree.specs.DatumCode.{datum_code}
use Rattle.tuple_rows.specs.Tuples.{Table}
use Rattle.tuple_rows.specs.Keys.{Keyed, AllKeys}
use Rattle.group_table.specs.Groups.{same_lists, groups, joined_row, with_keys}

-- the width of the tuples, the slots of the keys, the slots that are joined, the seed of the hashes
-- by which groups are found, and for each group its first tuple's keys with its row, in which the
-- keys do not stand yet
pub record Grouping : Type 0 where
  pub width : ℕ
  pub keys : List ℕ
  pub joined : List ℕ
  pub seed : ℕ
  pub groups : List Keyed

abbrev pub grouping_code : Coded Grouping
grouping_code =
    code_by (ℕ × (List ℕ × (List ℕ × (ℕ × List Keyed))))
    (coded× coded_ℕ (coded× (coded_list coded_ℕ) (coded× (coded_list coded_ℕ) (coded× coded_ℕ
    (coded_list
    (coded× (coded_list (coded_option datum_code)) (coded_list (coded_list datum_code))))))))
    (λ t. (t.width, (t.keys, (t.joined, (t.seed, t.groups)))))
    (λ p. record {
      width = p.0;
      keys = p.1.0;
      joined = p.1.1.0;
      seed = p.1.1.1.0;
      groups = p.1.1.1.1;
    })
    (λ _. refl)

-- a table with no groups yet
abbrev pub no_groups : ℕ → List ℕ → List ℕ → ℕ → Grouping
no_groups w ks js s = record { width = w; keys = ks; joined = js; seed = s; groups = [] }

-- the groups of a list, with their rows
abbrev pub grouped : (width : ℕ) (joined : List ℕ) → List Keyed → List Keyed
grouped width joined X = map (λ g. (g.0, joined_row width joined g.1)) (groups same_lists X)

-- each tuple's keys are absent or atomics
abbrev pub AllKeyed : List Keyed → Type 0
AllKeyed [] = Unit {0}
AllKeyed (p ∷ X) = AllKeys p.0 × AllKeyed X

-- the table stands for this list of tuples with their keys
pub record StandsFor (table : Grouping) (X : List Keyed) : Type 0 where
  pub keyed : AllKeyed X
  pub groups : table.groups ≡ grouped table.width table.joined X

-- two tables of tuples of one width, with the same slots and seed
abbrev pub IsLike : Grouping → Grouping → Type 0
IsLike old new = new ≡ record old { groups = new.groups }

-- the rows that the groups make
abbrev pub finished : Grouping → Table
finished table = record {
  width = table.width;
  tuples = map (λ g. with_keys table.keys g.0 g.1) table.groups;
}

-- the slots are below the width
abbrev pub AllBelow : ℕ → List ℕ → Type 0
AllBelow width [] = Unit {0}
AllBelow width (i ∷ slots) = (i < width) × AllBelow width slots
