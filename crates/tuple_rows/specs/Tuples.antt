-- Tuples, and tables of tuples of one width.
use Rattle.std.specs.Prelude.{◌≡◌, ℕ, List, [], ◌∷◌, length, map, Vec, refl}
use Rattle.std.specs.Coded.{Coded, code_by, coded×, coded_ℕ, coded_list}
use Rattle.std.specs.declared.alloc.Global.{Global}
use Rattle.item_tree.specs.declared.item.Item.{Item}
use Rattle.item_tree.specs.Datum.{Datum}
use Rattle.item_tree.specs.DatumCode.{datum_code}
use Rattle.item_tree.specs.Item.{datums}
use Rattle.tuple_rows.specs.declared.tuple.Tuple.{Tuple}

-- a tuple as the list of its sequences
abbrev pub Row : Type 0
Row = List (List Datum)

abbrev pub sequence : Vec Item Global → List Datum
sequence v = datums v.items

abbrev pub sequences : Tuple → Row
sequences t = map sequence t.slots.items

abbrev pub row_list : List Tuple → List Row
row_list ts = map sequences ts

-- each of the tuples has so many slots
abbrev pub AllOfWidth : ℕ → List Row → Type 0
AllOfWidth width [] = Unit {0}
AllOfWidth width (t ∷ ts) = (length t ≡ width) × AllOfWidth width ts

-- the tuples of a table in order, and the width that each of them has
pub record Table : Type 0 where
  pub width : ℕ
  pub tuples : List Row

abbrev pub table_code : Coded Table
table_code =
    code_by (ℕ × List Row) (coded× coded_ℕ (coded_list (coded_list (coded_list datum_code))))
    (λ t. (t.width, t.tuples)) (λ p. record { width = p.0; tuples = p.1 }) (λ _. refl)
