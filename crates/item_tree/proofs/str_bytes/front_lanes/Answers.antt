use Rattle.item_tree.proofs.FrontLanes.{front_selected}
use Rattle.item_tree.proofs.str_bytes.front_lanes.Goals as goal

pub returns : goal.returns
returns c = front_selected c.args.len c.args.bytes.now c.requires.room
