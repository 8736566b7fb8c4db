use Rattle.std.proofs.Common.{sym, ap, map, ◌∙◌}
use Rattle.query_tree.specs.BoundViews.{bound_tree}
use Rattle.mode_planner.specs.Plans.{local_line, leaf_plan}
use Rattle.mode_planner.proofs.Locals.{made_local}
use Rattle.mode_planner.proofs.leaf.plan_leaf.Goals as goal

pub returns-then-local : goal.returns-then-local
returns-then-local c =
    let t = bound_tree c.args.tree.now in
    made_local t c.in_ok-leaf.leaf c.in_ok-lines.lines.items c.new.result.items c.in_ok-leaf.ensures (c.in_ok-lines.ensures ∙ ap (map local_line) c.deref.ensures.value) c.new.ensures.items
    ∙ ap (λ local. leaf_plan local t) (sym c.if-local.true)
