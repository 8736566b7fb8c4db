-- The names of the types of items.
use Rattle.std.specs.Prelude.{ℕ, Bool, true, false, ◌&&◌, ◌||◌, not, Option, Some, None, List, [], ◌∷◌, codes, if◌then◌else◌}
use Rattle.std.specs.Str.{bytes_eq}
use Rattle.seq_types.specs.declared.types.ItemType.{ItemType}
use Rattle.seq_types.specs.declared.types.ItemType.TheVariants.{Item, JsonItem, Object, Array, Atomic, Text, Integer, Decimal, Boolean, Null, Date, DateTime}

-- the name of a type, as a query writes it
abbrev pub name_of : ItemType → List ℕ
name_of Item = codes "item"
name_of JsonItem = codes "json-item"
name_of Object = codes "object"
name_of Array = codes "array"
name_of Atomic = codes "atomic"
name_of Text = codes "string"
name_of Integer = codes "integer"
name_of Decimal = codes "decimal"
name_of Boolean = codes "boolean"
name_of Null = codes "null"
name_of Date = codes "date"
name_of DateTime = codes "dateTime"

-- a type, and whether parentheses may follow its name
pub record TypeRow : Type 0 where
  pub meaning : ItemType
  pub parens : Bool

abbrev pub row : ItemType → Bool → TypeRow
row meaning parens = record { meaning = meaning; parens = parens }

-- all types of items
abbrev pub type_rows : List TypeRow
type_rows =
    row Item true ∷ row JsonItem true ∷ row Object true ∷ row Array true
    ∷ row Atomic false ∷ row Text false ∷ row Integer false ∷ row Decimal false
    ∷ row Boolean false ∷ row Null false ∷ row Date false ∷ row DateTime false ∷ []

-- the type of the row with this name, where parentheses follow it or not
abbrev pub found_in : List TypeRow → List ℕ → Bool → Option ItemType
found_in [] name parens = None
found_in (r ∷ rows) name parens =
    if bytes_eq name (name_of r.meaning) && (not parens || r.parens) then Some r.meaning
    else found_in rows name parens

abbrev pub type_named : List ℕ → Bool → Option ItemType
type_named name parens = found_in type_rows name parens
