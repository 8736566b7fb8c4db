-- What an item stands for.
use Rattle.std.specs.Prelude.{◌≡◌, ℕ, List, map, refl}
use Rattle.std.proofs.Common.{sym, ◌∙◌, ap}
use Rattle.item_tree.specs.declared.item.Item.{Item}
use Rattle.item_tree.specs.declared.item.Item.TheVariants.{Null, Bool, Int, Dec, Text, Date, DateTime, Array, Object}
use Rattle.item_tree.specs.Datum.{array, object, listed, pairs, listed_values, pairs_members, Datum, null, boolean, integer, decimal, text, date, date_time, array_of_list, object_of_pairs}

-- the value that an item stands for
abbrev pub datum : Item → Datum
datum Null = null
datum (Bool b) = boolean b
datum (Int n) = integer n
datum (Dec m) = decimal m
datum (Text t) = text t
datum (Date d) = date d
datum (DateTime t) = date_time t
datum (Array vs) = array_of_list vs
datum (Object ps) = object_of_pairs ps

abbrev pub datums : List Item → List Datum
datums xs = map datum xs

abbrev pub pair_datums : List (List ℕ × Item) → List (List ℕ × Datum)
pair_datums ps = map (λ p. (p.0, datum p.1)) ps

-- the item that stands for a value
abbrev pub item : Datum → Item
item null = Null
item (boolean b) = Bool b
item (integer n) = Int n
item (decimal m) = Dec m
item (text t) = Text t
item (date d) = Date d
item (date_time t) = DateTime t
item (array vs) = Array (listed vs)
item (object ms) = Object (pairs ms)

pub item-datum : (x : Item) → item (datum x) ≡ x
item-datum Null = refl
item-datum (Bool b) = refl
item-datum (Int n) = refl
item-datum (Dec m) = refl
item-datum (Text t) = refl
item-datum (Date d) = refl
item-datum (DateTime t) = refl
item-datum (Array vs) = ap Array (listed_values vs)
item-datum (Object ps) = ap Object (pairs_members ps)

-- two items that stand for one value are the same
pub same_item : (x y : Item) → datum x ≡ datum y → x ≡ y
same_item x y e = sym (item-datum x) ∙ ap item e ∙ item-datum y
