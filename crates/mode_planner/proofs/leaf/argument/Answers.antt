use Rattle.std.proofs.Common.{sym, ap, ◌∙◌}
use Rattle.query_tree.specs.BoundViews.{bound_tree_list}
use Rattle.mode_planner.specs.Plans.{argument}
use Rattle.mode_planner.proofs.Arguments.{more_arguments}
use Rattle.mode_planner.proofs.leaf.argument.Goals as goal

pub returns-then-not-is_empty : goal.returns-then-not-is_empty
returns-then-not-is_empty c = sym (ap (λ es. argument c.args.id (bound_tree_list es)) c.in-Some.ensures.cases.0 ∙ more_arguments c.args.id c.in-Some.only.now c.in-Some.rest.now c.if-not-is_empty.ensures)
