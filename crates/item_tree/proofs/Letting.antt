-- What an array or an object holds is smaller than it, as its drop measures items.
use Rattle.std.specs.Prelude.{ℕ, ◌≡◌, ◌<◌, ◌≤◌, ◌+◌, ◌*◌, List, [], ◌∷◌}
use Rattle.std.specs.Arc.{arc_value}
use Rattle.std.proofs.Common.{arith}
use denote.Param.Weighed.{most}
use Rattle.item_tree.specs.declared.item.Item.{Item}
use Rattle.item_tree.specs.declared.item.Items.TheDeep.{size-Item, deep-Item, deep-Held, deep-HeldPairs}
use Rattle.item_tree.specs.declared.item.Held.{Held}
use Rattle.item_tree.specs.declared.item.Held.TheVariants.{One, Two, Three, Four, Many}
use Rattle.item_tree.specs.declared.item.HeldPairs.{HeldPairs}
use Rattle.item_tree.specs.declared.item.HeldPairs.TheVariants as few
use Rattle.item_tree.specs.declared.item.Items.TheShapes.{weighed-Shared-pairs-at-2}
use Rattle.item_tree.specs.inside.Held.{items_in}
use Rattle.item_tree.specs.inside.HeldPairs.{pairs_in}

sizes : (xs : List Item) → most size-Item xs ≤ 4 * most deep-Item xs + 1
sizes [] = omega arith
sizes (x ∷ xs) = omega (arith, sizes xs)

pair_sizes : (ps : List (List ℕ × Item))
    → most (weighed-Shared-pairs-at-2.weight Item size-Item) ps
    ≤ 4 * most (weighed-Shared-pairs-at-2.weight Item deep-Item) ps + 1
pair_sizes [] = omega arith
pair_sizes (p ∷ ps) = omega (arith, pair_sizes ps)

pub held_smaller : (h : Held) (t : ℕ) → 4 * deep-Held h + 2 ≡ t
    → most size-Item (items_in h) < t
held_smaller (One d items) t e = omega (arith, sizes (arc_value items), e)
held_smaller (Two d items) t e = omega (arith, sizes (arc_value items), e)
held_smaller (Three d items) t e = omega (arith, sizes (arc_value items), e)
held_smaller (Four d items) t e = omega (arith, sizes (arc_value items), e)
held_smaller (Many d items) t e = omega (arith, sizes (arc_value items).items, e)

pub pairs_smaller : (h : HeldPairs) (t : ℕ) → 4 * deep-HeldPairs h + 3 ≡ t
    → most (weighed-Shared-pairs-at-2.weight Item size-Item) (pairs_in h) < t
pairs_smaller (few.One d pairs) t e = omega (arith, pair_sizes (arc_value pairs), e)
pairs_smaller (few.Two d pairs) t e = omega (arith, pair_sizes (arc_value pairs), e)
pairs_smaller (few.Three d pairs) t e = omega (arith, pair_sizes (arc_value pairs), e)
pairs_smaller (few.Four d pairs) t e = omega (arith, pair_sizes (arc_value pairs), e)
pairs_smaller (few.Many d shared) t e = omega (arith, pair_sizes (arc_value shared).pairs.items, e)
