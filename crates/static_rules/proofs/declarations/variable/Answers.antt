use Rattle.query_tree.specs.NamedViews.{named_variable}
use Rattle.static_rules.proofs.Made.{on-made, of-made}
use Rattle.static_rules.proofs.DeclaredVariables.{variable-walk, variable-tree}
use Rattle.static_rules.proofs.declarations.variable.Goals as goal

pub returns-clause-tree : goal.returns-clause-tree
returns-clause-tree c =
    variable-tree c.args.walk.now c.begin.new.self c.test.new.self c.any_type.new.walk c.is_bound-twice.result (named_variable c.args.part.now)
    c.begin.ensures c.is_bound-twice.ensures c.test.ensures c.in_ok-of.ensures.walk
    c.args.number c.in_ok-value.name c.in_ok-of.of _
    (of-made _ _ _ c.in_ok-value.ensures.second c.declare-slot.ensures.slot) c.in_ok-of.ensures.value (of-made _ _ _ c.in_ok-value.ensures.first c.expr-value.ensures.tree)

pub returns-clause-walk : goal.returns-clause-walk
returns-clause-walk c =
    variable-walk c.args.walk.now c.begin.new.self c.test.new.self c.any_type.new.walk c.is_bound-twice.result (named_variable c.args.part.now)
    c.begin.ensures c.is_bound-twice.ensures c.test.ensures c.in_ok-of.ensures.walk
    c.expr-value.new.walk c.declare-slot.new.self c.args.number
    (on-made _ _ _ c.in_ok-value.ensures.first c.expr-value.ensures.walk) (on-made _ _ _ c.in_ok-value.ensures.second c.declare-slot.ensures.walk)
