use Rattle.std.proofs.Common.{◌≡◌, [], drop}
use Rattle.std.specs.List.{flat_map}
use Rattle.query_tree.specs.Calls.{calls, module_calls}
use Rattle.query_tree.specs.Compiled.{bound_trees}
use Rattle.query_tree.specs.Inputs.{all_names}
use Rattle.query_tree.specs.inside.Told.{with_names}
use Rattle.query_tree.specs.inside.Waiting.{lent}
use Rattle.query_tree.proofs.inputs.input_names.Given as goal

abbrev pub invariant-loop-tree : goal.invariant-loop-tree
invariant-loop-tree l = with_names l.names.found.items (all_names (flat_map calls (lent (drop l.tree-index l.tree-items)))) ≡ with_names [] (all_names (module_calls (bound_trees l.query)))
