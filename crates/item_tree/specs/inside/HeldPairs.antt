-- How an object holds its pairs.
use Rattle.std.specs.Prelude.{ℕ, List, Option, None, option_map}
use Rattle.std.specs.Arc.{arc_value}
use Rattle.item_tree.specs.declared.item.Item.{Item}
use Rattle.item_tree.specs.declared.item.HeldPairs.{HeldPairs}
use Rattle.item_tree.specs.declared.item.HeldPairs.TheVariants.{One, Two, Three, Four, Many}
use Rattle.item_tree.specs.Lookup.{Index}

-- the pairs, in order
abbrev pub pairs_in : HeldPairs → List (List ℕ × Item)
pairs_in (One depth pairs) = arc_value pairs
pairs_in (Two depth pairs) = arc_value pairs
pairs_in (Three depth pairs) = arc_value pairs
pairs_in (Four depth pairs) = arc_value pairs
pairs_in (Many depth shared) = (arc_value shared).pairs.items

-- the depth of the object, which stands before its pairs
abbrev pub pairs_depth_in : HeldPairs → ℕ
pairs_depth_in (One depth pairs) = depth
pairs_depth_in (Two depth pairs) = depth
pairs_depth_in (Three depth pairs) = depth
pairs_depth_in (Four depth pairs) = depth
pairs_depth_in (Many depth shared) = depth

-- the index of the keys, which a few have not
abbrev pub places_in : HeldPairs → Option Index
places_in (One depth pairs) = None
places_in (Two depth pairs) = None
places_in (Three depth pairs) = None
places_in (Four depth pairs) = None
places_in (Many depth shared) = option_map arc_value (arc_value shared).places
