-- How an array holds its items.
use Rattle.std.specs.Prelude.{ℕ, List}
use Rattle.std.specs.Arc.{arc_value}
use Rattle.item_tree.specs.declared.item.Item.{Item}
use Rattle.item_tree.specs.declared.item.Held.{Held}
use Rattle.item_tree.specs.declared.item.Held.TheVariants.{One, Two, Three, Four, Many}

-- the items, in order
abbrev pub items_in : Held → List Item
items_in (One depth items) = arc_value items
items_in (Two depth items) = arc_value items
items_in (Three depth items) = arc_value items
items_in (Four depth items) = arc_value items
items_in (Many depth items) = (arc_value items).items

-- the depth of the array, which stands before its items
abbrev pub depth_in : Held → ℕ
depth_in (One depth items) = depth
depth_in (Two depth items) = depth
depth_in (Three depth items) = depth
depth_in (Four depth items) = depth
depth_in (Many depth items) = depth
