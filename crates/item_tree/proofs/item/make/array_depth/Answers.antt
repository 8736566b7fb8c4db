use Rattle.std.proofs.Common.{arith}
use Rattle.item_tree.proofs.ArrayLists.{depth_more, sound_more}
use Rattle.item_tree.proofs.item.make.array_depth.Goals as goal
use Rattle.item_tree.proofs.item.make.array_depth.Goals.{then-depth-inside, else-depth-inside}

pub loop-x-preserved : goal.loop-x-preserved
loop-x-preserved c =
    let lt = c.loop-x-test.true in
    let is = c.x-item.is in
    let more = depth_more c.args.items.now c.loop-x.x-index c.x-item.result lt is in (
      elim c.if-depth-inside.branch [ then-depth-inside w ↦ omega arith | else-depth-inside w ↦ omega arith ],
      sound_more _ _ _ lt is c.loop-x.invariant.1 c.depth-inside.ensures.sound,
    )
