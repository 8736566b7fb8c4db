use Rattle.std.proofs.Common.{sym, ap, subst, ◌∙◌}
use Rattle.std.specs.Prelude.{max}
use Rattle.static_rules.proofs.VariableLoops.{VariablesLeft, variables-begun, variables-more, variables-tree, variables-width, variables-walk}
use Rattle.static_rules.proofs.declarations.variables.Goals as goal

pub loop-number-init : goal.loop-number-init
loop-number-init c = subst (λ out. VariablesLeft c.args.walk.now c.args.parts.now c.args.walk.now out 0 0 c.args.parts.now) (sym c.new-out.ensures.items) (variables-begun _ _ c.requires)

pub loop-number-preserved : goal.loop-number-preserved
loop-number-preserved c =
    variables-more _ _ _ _ _ _ _ _ _ _ _ c.loop-number.invariant c.loop-number-test.true c.index-parts-number.is c.variable.ensures.tree c.variable.ensures.walk c.in_ok-out.ensures
    (c.max-width.ensures ∙ ap (max c.loop-number.width) c.width.ensures)

pub returns-clause-tree : goal.returns-clause-tree
returns-clause-tree c = variables-tree _ _ _ _ _ _ c.loop-number.invariant c.loop-number-test.false

pub returns-clause-width : goal.returns-clause-width
returns-clause-width c = variables-width _ _ _ _ _ _ c.loop-number.invariant c.loop-number-test.false

pub returns-clause-walk : goal.returns-clause-walk
returns-clause-walk c = c.begin.ensures ∙ variables-walk _ _ _ _ _ _ c.loop-number.invariant c.loop-number-test.false
