-- Trees that wait on a stack, the next one first.
use Rattle.std.specs.Prelude.{List, [], ◌∷◌, ◌++◌, map}
use denote.Ref.{Bor}
use Rattle.seq_types.specs.declared.types.SeqType.{SeqType}
use Rattle.query_tree.specs.Bound.{BoundTree}
use Rattle.query_tree.specs.BoundViews.{bound_tree}
use Rattle.query_tree.specs.declared.bound.Slot.{Slot}
use Rattle.query_tree.specs.declared.bound.Target.{Target}
use Rattle.query_tree.specs.declared.expr.Expr.{Expr}

-- trees that are lent
abbrev pub lent : List (Bor (Expr Slot Target SeqType)) → List BoundTree
lent es = map (λ e. bound_tree e.now) es

unfoldable pub waiting : List (Bor (Expr Slot Target SeqType)) → List BoundTree
waiting [] = []
waiting (e ∷ es) = waiting es ++ bound_tree e.now ∷ []
