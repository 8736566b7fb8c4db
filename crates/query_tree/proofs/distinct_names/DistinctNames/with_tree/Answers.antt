use Rattle.std.proofs.Common.{sym, ◌∙◌}
use Rattle.query_tree.proofs.Naming.{told-begun, told-more, told-all, fewer-left}
use Rattle.query_tree.proofs.distinct_names.DistinctNames.with_tree.Goals as goal

pub loop-next-init : goal.loop-next-init
loop-next-init c = told-begun c.args.self.found.items c.in_ok-stack.stack.items c.args.tree c.in_ok-stack.ensures.items

pub loop-next-smaller : goal.loop-next-smaller
loop-next-smaller c = fewer-left c.in-Some.next _ _ _ c.in-Some.ensures.items c.in_ok-push_children.ensures

pub loop-next-preserved : goal.loop-next-preserved
loop-next-preserved c = told-more c.loop-next.names.found.items _ c.in-Some.next _ _ _ c.in-Some.ensures.items c.in_ok-names.ensures c.in_ok-push_children.ensures ∙ c.loop-next.invariant

pub returns : goal.returns
returns c = sym (told-all c.loop-next.names.found.items c.loop-next.stack.items (sym c.loop-next.stack.ok.0 ∙ c.in_default.ensures.cases.0)) ∙ c.loop-next.invariant
