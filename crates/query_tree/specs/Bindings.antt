-- The numbers of the local bindings in a compiled tree, in text order.
use Rattle.std.specs.Prelude.{ℕ, List, [], ◌∷◌, ◌++◌}
use Rattle.query_tree.specs.declared.bound.Slot.{Slot}
use Rattle.query_tree.specs.declared.bound.Slot.TheVariants.{Local, Global}
use Rattle.query_tree.specs.Binders.{binders}
use Rattle.query_tree.specs.Bound.{BoundTree}

abbrev pub own_number : Slot → List ℕ
own_number (Local n) = n ∷ []
own_number (Global n) = []

abbrev pub numbers_of : List Slot → List ℕ
numbers_of [] = []
numbers_of (v ∷ vs) = own_number v ++ numbers_of vs

abbrev pub bindings : BoundTree → List ℕ
bindings t = numbers_of (binders t)
