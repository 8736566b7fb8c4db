-- How the spine is gone through: one expression after another, of those that wait.
use Rattle.std.specs.Prelude.{Bool, true, false, List, [], ◌∷◌}
use Rattle.query_tree.specs.Bound.{BoundTree}
use Rattle.mode_planner.specs.Spine.{is_passed}

abbrev pub unless_passed : BoundTree → Bool → List BoundTree
unless_passed t true = []
unless_passed t false = t ∷ []

-- an expression that is itself a leaf
abbrev pub own_leaf : BoundTree → List BoundTree
own_leaf t = unless_passed t (is_passed t)
