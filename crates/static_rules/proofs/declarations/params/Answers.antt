use Rattle.std.proofs.Common.{sym, subst}
use Rattle.static_rules.proofs.ParamLoops.{ParamsLeft, params-begun, params-more, params-tree, params-walk}
use Rattle.static_rules.proofs.declarations.params.Goals as goal

pub loop-part-init : goal.loop-part-init
loop-part-init c = subst (λ out. ParamsLeft c.args.base c.args.walk.now c.args.parts.now c.args.walk.now out c.args.parts.now) (sym c.new-out.ensures.items) (params-begun _ _ _ c.requires)

pub param-requires : goal.param-requires
param-requires c = c.loop-part.invariant.longer

pub loop-part-preserved : goal.loop-part-preserved
loop-part-preserved c = params-more _ _ _ _ _ _ _ _ _ _ c.loop-part.invariant c.loop-part-test.true c.part-item.is c.in_ok-param.ensures.tree c.in_ok-param.ensures.walk c.in_ok-push.ensures.items

pub returns-clause-tree : goal.returns-clause-tree
returns-clause-tree c = params-tree _ _ _ _ _ _ c.loop-part.invariant c.loop-part-test.false

pub returns-clause-walk : goal.returns-clause-walk
returns-clause-walk c = params-walk _ _ _ _ _ _ c.loop-part.invariant c.loop-part-test.false
