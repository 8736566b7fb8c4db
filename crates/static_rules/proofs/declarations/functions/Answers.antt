use Rattle.std.proofs.Common.{sym, ap, subst, ◌∙◌}
use Rattle.std.specs.Prelude.{max}
use Rattle.static_rules.proofs.FunctionLoops.{FunctionsLeft, functions-begun, functions-more, functions-known, functions-before, functions-tree, functions-width, functions-walk}
use Rattle.static_rules.proofs.declarations.functions.Goals as goal

pub loop-number-init : goal.loop-number-init
loop-number-init c = subst (λ out. FunctionsLeft c.see_all.new.walk c.args.parts.now c.see_all.new.walk out 0 0 c.args.parts.now) (sym c.new-out.ensures.items) (functions-begun _ _)

pub function-requires : goal.function-requires
function-requires c = functions-before _ _ _ _ _ _ _ (functions-known _ _ _ c.in_ok-see_all.ensures) c.loop-number.invariant c.loop-number-test.true

pub loop-number-preserved : goal.loop-number-preserved
loop-number-preserved c =
    functions-more _ _ _ _ _ _ _ _ _ _ _ (functions-known _ _ _ c.in_ok-see_all.ensures)
    c.loop-number.invariant c.loop-number-test.true c.index-parts-number.is c.function.ensures.tree c.function.ensures.walk c.in_ok-out.ensures
    (c.max-width.ensures ∙ ap (max c.loop-number.width) c.width.ensures)

pub returns-clause-tree : goal.returns-clause-tree
returns-clause-tree c = functions-tree _ _ _ _ _ _ _ c.in_ok-see_all.ensures c.loop-number.invariant c.loop-number-test.false

pub returns-clause-width : goal.returns-clause-width
returns-clause-width c = functions-width _ _ _ _ _ _ _ c.in_ok-see_all.ensures c.loop-number.invariant c.loop-number-test.false

pub returns-clause-walk : goal.returns-clause-walk
returns-clause-walk c = c.begin.ensures ∙ functions-walk _ _ _ _ _ _ _ c.in_ok-see_all.ensures c.loop-number.invariant c.loop-number-test.false
