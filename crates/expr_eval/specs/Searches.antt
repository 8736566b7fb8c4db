-- The open bindings of a search as the evaluator has them.
use Rattle.std.specs.Prelude.{◌++◌, List, [], ◌∷◌, drop}
use Rattle.query_tree.specs.BoundViews.{bound_binds}
use Rattle.query_meaning.specs.inside.Views.{items_of}
use Rattle.expr_eval.specs.declared.searches.Open.{Open}
use Rattle.expr_eval.specs.Quantifiers.{OpenBinding}

unfoldable pub open_of : Open → OpenBinding
open_of o = record {
  variable = o.bind.now.variable;
  type = o.bind.now.of;
  behind = bound_binds o.rest.now;
  before = items_of o.before;
  left = drop o.taken (items_of o.items);
}

-- the innermost stands last, and first here
unfoldable pub innermost : List Open → List OpenBinding
innermost [] = []
innermost (o ∷ os) = innermost os ++ open_of o ∷ []
