use Rattle.std.specs.Prelude.{option_copied}
use Rattle.item_tree.specs.Item.{datums}
use Rattle.rumble_run.specs.inside.Cuts.{left_length, left_read}
use Rattle.rumble_run.proofs.ItemLists.{IsSoFar}
use Rattle.rumble_run.proofs.items.read_items.Given as goal

abbrev pub invariant-reading : goal.invariant-reading
invariant-reading l = IsSoFar l.fn.input (datums l.items.items) (left_read (option_copied l.lines.left))

abbrev pub decreases-reading : goal.decreases-reading
decreases-reading l = left_length (option_copied l.lines.left)
