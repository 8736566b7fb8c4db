use Rattle.std.proofs.Common.{sym, ◌∙◌}
use Rattle.query_tree.proofs.Walking.{seen-begun, seen-more, seen-all, fewer-left}
use Rattle.query_tree.proofs.walk.push_expressions.Goals as goal

pub loop-next-init : goal.loop-next-init
loop-next-init c = seen-begun c.args.found.now.items c.in_ok-stack.stack.items c.args.tree c.in_ok-stack.ensures.items

pub loop-next-smaller : goal.loop-next-smaller
loop-next-smaller c = fewer-left c.in-Some.next _ _ _ c.in-Some.ensures.items c.in_ok-push_children.ensures

pub loop-next-preserved : goal.loop-next-preserved
loop-next-preserved c = seen-more _ _ c.in-Some.next _ _ _ c.in-Some.ensures.items c.in_ok-push.ensures.items c.in_ok-push_children.ensures ∙ c.loop-next.invariant

pub returns : goal.returns
returns c = sym (seen-all c.loop-next.found.items c.loop-next.stack.items (sym c.loop-next.stack.ok.0 ∙ c.in_default.ensures.cases.0)) ∙ c.loop-next.invariant
