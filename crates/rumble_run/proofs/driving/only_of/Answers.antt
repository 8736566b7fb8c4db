use Rattle.std.proofs.Common.{sym, ap, ◌∙◌}
use Rattle.query_tree.specs.BoundViews.{bound_tree_list}
use Rattle.rumble_run.specs.inside.Driving.{only_of}
use Rattle.rumble_run.proofs.OtherKinds.{not_only}
use Rattle.rumble_run.proofs.driving.only_of.Goals as goal

pub returns-else-is_empty : goal.returns-else-is_empty
returns-else-is_empty c = sym (ap (λ es. only_of (bound_tree_list es)) c.in_ok-only.ensures.cases.0 ∙ not_only c.in_ok-only.only.now c.in_ok-only.rest.now c.if-is_empty.ensures)
