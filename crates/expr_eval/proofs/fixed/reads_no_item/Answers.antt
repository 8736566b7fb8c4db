use Rattle.expr_eval.proofs.FixedSteps.{sum_is_fixed}
use Rattle.expr_eval.proofs.fixed.reads_no_item.Goals as goal

pub returns-then-is_fixed_term : goal.returns-then-is_fixed_term
returns-then-is_fixed_term c = λ h.
    sum_is_fixed c.args.e.now c.in-Sum.first c.in-Sum.rest _ _ c.in-Sum.is c.deref.ensures c.deref-then-is_fixed_term.ensures.value (c.is_fixed_term.ensures c.if-is_fixed_term.true) (c.are_fixed_terms.ensures h)
