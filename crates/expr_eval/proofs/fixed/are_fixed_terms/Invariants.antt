use Rattle.std.proofs.Common.{drop}
use Rattle.query_tree.specs.BoundViews.{bound_terms}
use Rattle.expr_eval.specs.Fixed.{AreFixedTerms}
use Rattle.expr_eval.proofs.fixed.are_fixed_terms.Given as goal

-- those that are left decide
abbrev pub invariant-loop-term : goal.invariant-loop-term
invariant-loop-term l = AreFixedTerms (bound_terms (drop l.term-index l.terms)) → AreFixedTerms (bound_terms l.terms)
