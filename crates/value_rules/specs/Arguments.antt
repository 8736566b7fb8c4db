-- The arguments of a call that takes any number of them.
use Rattle.std.specs.Prelude.{List, map, Vec}
use Rattle.std.specs.declared.alloc.Global.{Global}
use Rattle.item_tree.specs.declared.item.Item.{Item}
use Rattle.item_tree.specs.Datum.{Datum}
use Rattle.item_tree.specs.Item.{datums}

abbrev pub argument_values : List (Vec Item Global) → List (List Datum)
argument_values arguments = map (λ argument. datums argument.items) arguments
