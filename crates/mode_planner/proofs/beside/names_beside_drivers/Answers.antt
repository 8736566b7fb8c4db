use Rattle.std.proofs.Common.{sym, ap, map, ◌∙◌}
use Rattle.query_tree.specs.BoundViews.{bound_tree}
use Rattle.query_tree.specs.Compiled.{bound_trees}
use Rattle.query_tree.specs.inside.Told.{with_names}
use Rattle.mode_planner.specs.Beside.{drivers}
use Rattle.mode_planner.specs.inside.Calls.{tree_names}
use Rattle.mode_planner.specs.inside.Views.{leaf_of}
use Rattle.mode_planner.proofs.Besides.{beside-told, told-next, told-end}
use Rattle.mode_planner.proofs.beside.names_beside_drivers.Goals as goal

pub loop-tree-preserved : goal.loop-tree-preserved
loop-tree-preserved c =
    let found = c.loop-tree.names.found.items in
    let leaves = map leaf_of c.args.plan.now.leaves.items in
    let ds = c.in_ok-drivers.ensures ∙ ap (λ ls. drivers (map leaf_of ls)) c.deref.ensures.value in
    let own = c.in_ok-names.ensures ∙ ap (λ d. with_names found (tree_names d (bound_tree c.tree-item.result.now))) ds in
    told-next (drivers leaves) found _ c.deref-tree-items.result.now c.loop-tree.tree-index c.tree-item.result c.loop-tree-test.true c.tree-item.is own ∙ c.loop-tree.invariant

pub returns : goal.returns
returns c =
    let leaves = map leaf_of c.args.plan.now.leaves.items in
    c.into_list.ensures
    ∙ sym (told-end (drivers leaves) c.loop-tree.names.found.items c.deref-tree-items.result.now c.loop-tree.tree-index c.loop-tree-test.false)
    ∙ c.loop-tree.invariant ∙ beside-told leaves (bound_trees c.args.query.now)
