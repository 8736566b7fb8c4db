-- A few integers.
use Rattle.std.specs.Prelude.{List, [], ◌∷◌}
use Rattle.item_tree.specs.Datum.{Datum, integer}
use Rattle.item_tree.specs.declared.item.few.FewIntegers.{FewIntegers}
use Rattle.item_tree.specs.declared.item.few.FewIntegers.TheVariants.{One, Two, Three, Four}

-- the integers, in order
abbrev pub integers_in : FewIntegers → List Datum
integers_in (One a) = integer a ∷ []
integers_in (Two a b) = integer a ∷ integer b ∷ []
integers_in (Three a b c) = integer a ∷ integer b ∷ integer c ∷ []
integers_in (Four a b c d) = integer a ∷ integer b ∷ integer c ∷ integer d ∷ []
