use Rattle.std.proofs.Common.{sym, ap, ◌∙◌}
use Rattle.query_tree.proofs.Layers.{tree_of-out}
use Rattle.seq_types.specs.declared.types.SeqType.{SeqType}
use Rattle.query_tree.specs.declared.bound.Slot.{Slot}
use Rattle.query_tree.specs.declared.bound.Target.{Target}
use Rattle.mode_planner.specs.Drivers.{call_driver}
use Rattle.mode_planner.proofs.NotTold.{no_call}
use Rattle.mode_planner.proofs.drivers.call_driver.Goals as goal

pub returns-in_default : goal.returns-in_default
returns-in_default c = sym (ap call_driver (tree_of-out Slot Target SeqType c.args.tree.now) ∙ no_call c.args.tree.now.kind c.in_default.not-Call c.args.tree.now.place)
