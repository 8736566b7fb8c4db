-- Keys by which tuples are grouped and ordered.
use Rattle.std.specs.Prelude.{List, [], ◌∷◌, map, Option, option_map, Vec}
use Rattle.std.specs.declared.alloc.Global.{Global}
use Rattle.item_tree.specs.declared.item.Item.{Item}
use Rattle.item_tree.specs.Datum.{Datum}
use Rattle.item_tree.specs.Item.{datum}
use Rattle.item_tree.specs.Laws.{IsKey}
use Rattle.tuple_rows.specs.Tuples.{Row}

-- the keys of a tuple from left to right; one is absent where its expression is empty
abbrev pub KeyList : Type 0
KeyList = List (Option Datum)

-- a tuple with its keys
abbrev pub Keyed : Type 0
Keyed = KeyList × Row

abbrev pub key_datum : Option Item → Option Datum
key_datum k = option_map datum k

abbrev pub key_data : List (Option Item) → KeyList
key_data ks = map key_datum ks

abbrev pub key_list : Vec (Option Item) Global → KeyList
key_list v = key_data v.items

-- each key is absent or one atomic
abbrev pub AllKeys : KeyList → Type 0
AllKeys [] = Unit {0}
AllKeys (k ∷ ks) = IsKey k × AllKeys ks
