use Rattle.std.proofs.Common.{drop}
use Rattle.query_tree.specs.BoundViews.{bound_factors}
use Rattle.expr_eval.specs.Fixed.{ArePlain}
use Rattle.expr_eval.proofs.fixed.are_plain.Given as goal

-- those that are left decide
abbrev pub invariant-loop-factor : goal.invariant-loop-factor
invariant-loop-factor l = ArePlain (bound_factors (drop l.factor-index l.factors)) → ArePlain (bound_factors l.factors)
