-- Each item of an array or an object is less deep than it.
use Rattle.std.specs.Prelude.{ℕ, ◌+◌, ◌≤◌, List, [], ◌∷◌}
use Rattle.std.specs.Arc.{arc_value}
use Rattle.std.proofs.Common.{arith}
use denote.Param.Weighed.{most}
use Rattle.item_tree.specs.declared.item.Item.{Item}
use Rattle.item_tree.specs.declared.item.Item.TheVariants.{Null, Bool, Int, Dec, Text, Date, DateTime, Array, Object}
use Rattle.item_tree.specs.declared.item.Items.TheDeep.{deep-Item, deep-Held, deep-HeldPairs}
use Rattle.item_tree.specs.declared.item.Held.{Held}
use Rattle.item_tree.specs.declared.item.Held.TheVariants.{One, Two, Three, Four, Many}
use Rattle.item_tree.specs.declared.item.HeldPairs.{HeldPairs}
use Rattle.item_tree.specs.declared.item.HeldPairs.TheVariants as few
use Rattle.item_tree.specs.declared.item.Items.TheShapes.{weighed-Shared-pairs-at-2}
use Rattle.item_tree.specs.Datum.{depth, array_of_list, object_of_pairs}
use Rattle.item_tree.specs.Item.{datum, datums, pair_datums}
use Rattle.item_tree.specs.inside.Held.{items_in}
use Rattle.item_tree.specs.inside.HeldPairs.{pairs_in}

deep_le : (x : Item) → deep-Item x ≤ depth (datum x) + 1
deep_le Null = omega arith
deep_le (Bool b) = omega arith
deep_le (Int n) = omega arith
deep_le (Dec m) = omega arith
deep_le (Text t) = omega arith
deep_le (Date d) = omega arith
deep_le (DateTime t) = omega arith
deep_le (Array vs) = omega arith
deep_le (Object ps) = omega arith

pub items_fall : (xs : List Item) → most deep-Item xs ≤ depth (array_of_list (datums xs))
items_fall [] = omega arith
items_fall (x ∷ xs) = omega (arith, items_fall xs, deep_le x)

pub held_falls : (h : Held) → deep-Held h ≤ depth (array_of_list (datums (items_in h)))
held_falls (One d items) = omega (arith, items_fall (arc_value items))
held_falls (Two d items) = omega (arith, items_fall (arc_value items))
held_falls (Three d items) = omega (arith, items_fall (arc_value items))
held_falls (Four d items) = omega (arith, items_fall (arc_value items))
held_falls (Many d items) = omega (arith, items_fall (arc_value items).items)

pairs_fall : (ps : List (List ℕ × Item))
    → most (weighed-Shared-pairs-at-2.weight Item deep-Item) ps ≤ depth
    (object_of_pairs (pair_datums ps))
pairs_fall [] = omega arith
pairs_fall (p ∷ ps) = omega (arith, pairs_fall ps, deep_le p.1)

pub held_pairs_fall : (h : HeldPairs)
    → deep-HeldPairs h ≤ depth (object_of_pairs (pair_datums (pairs_in h)))
held_pairs_fall (few.One d pairs) = omega (arith, pairs_fall (arc_value pairs))
held_pairs_fall (few.Two d pairs) = omega (arith, pairs_fall (arc_value pairs))
held_pairs_fall (few.Three d pairs) = omega (arith, pairs_fall (arc_value pairs))
held_pairs_fall (few.Four d pairs) = omega (arith, pairs_fall (arc_value pairs))
held_pairs_fall (few.Many d shared) = omega (arith, pairs_fall (arc_value shared).pairs.items)
