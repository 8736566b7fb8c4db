use Rattle.std.proofs.Common.{sym, ap, ◌∙◌}
use Rattle.query_tree.proofs.Layers.{tree_of-out}
use Rattle.seq_types.specs.declared.types.SeqType.{SeqType}
use Rattle.query_tree.specs.declared.bound.Slot.{Slot}
use Rattle.query_tree.specs.declared.bound.Target.{Target}
use Rattle.mode_planner.specs.Plans.{driven}
use Rattle.mode_planner.proofs.NotTold.{not_driven}
use Rattle.mode_planner.proofs.driven.driven_tree.Goals as goal

pub returns-in_default : goal.returns-in_default
returns-in_default c = sym (ap (driven c.args.end) (tree_of-out Slot Target SeqType c.args.tree.now) ∙ not_driven c.args.tree.now.kind c.in_default.not-Call c.in_default.not-Flwor c.args.end c.args.tree.now.place)
