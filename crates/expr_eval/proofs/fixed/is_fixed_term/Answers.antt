use Rattle.expr_eval.proofs.FixedSteps.{product_is_term}
use Rattle.expr_eval.proofs.fixed.is_fixed_term.Goals as goal

pub returns-then-is_plain : goal.returns-then-is_plain
returns-then-is_plain c = λ h.
    product_is_term c.args.e.now c.in-Product.first c.in-Product.rest _ _ c.in-Product.is c.deref.ensures c.deref-then-is_plain.ensures.value (c.is_plain.ensures c.if-is_plain.true) (c.are_plain.ensures h)
