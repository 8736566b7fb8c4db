use Rattle.std.proofs.Common.{sym, ◌∙◌}
use Rattle.query_tree.specs.Calls.{module_calls}
use Rattle.query_tree.specs.Compiled.{bound_trees}
use Rattle.query_tree.specs.Inputs.{all_names}
use Rattle.query_tree.proofs.Naming.{told-one, told-end}
use Rattle.query_tree.proofs.Telling.{told-appear}
use Rattle.query_tree.proofs.inputs.input_names.Goals as goal

pub loop-tree-preserved : goal.loop-tree-preserved
loop-tree-preserved c = told-one c.loop-tree.names.found.items c.in_ok-names.names.found.items c.deref-tree-items.result.now c.loop-tree.tree-index c.tree-item.result c.loop-tree-test.true c.tree-item.is c.in_ok-names.ensures ∙ c.loop-tree.invariant

pub returns : goal.returns
returns c = c.into_list.ensures ∙ sym (told-end c.loop-tree.names.found.items c.deref-tree-items.result.now c.loop-tree.tree-index c.loop-tree-test.false) ∙ c.loop-tree.invariant ∙ told-appear (all_names (module_calls (bound_trees c.args.query.now)))
