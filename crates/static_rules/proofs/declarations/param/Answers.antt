use Rattle.static_rules.proofs.ParamLoops.{param-walk, param-tree}
use Rattle.static_rules.proofs.declarations.param.Goals as goal

pub returns-clause-tree : goal.returns-clause-tree
returns-clause-tree c =
    param-tree c.args.walk.now c.test.new.self c.any_type.new.walk c.is_bound_since-twice.result c.args.base c.args.part.now c.is_bound_since-twice.ensures c.test.ensures c.in_ok-of.ensures.walk
    c.in_ok-number.number c.local.result c.in_ok-of.of c.in_ok-number.ensures.number c.local.ensures c.in_ok-of.ensures.value

pub returns-clause-walk : goal.returns-clause-walk
returns-clause-walk c =
    param-walk c.args.walk.now c.test.new.self c.any_type.new.walk c.is_bound_since-twice.result c.args.base c.args.part.now c.is_bound_since-twice.ensures c.test.ensures c.in_ok-of.ensures.walk
    c.open.new.self c.in_ok-number.ensures.walk
