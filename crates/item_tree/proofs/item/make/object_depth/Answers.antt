use Rattle.std.proofs.Common.{arith}
use Rattle.item_tree.proofs.PairLists.{depth_more, sound_more}
use Rattle.item_tree.proofs.item.make.object_depth.Goals as goal
use Rattle.item_tree.proofs.item.make.object_depth.Goals.{then-depth-inside, else-depth-inside}

pub loop-p-preserved : goal.loop-p-preserved
loop-p-preserved c =
    let lt = c.loop-p-test.true in
    let is = c.p-item.is in
    let more = depth_more c.args.pairs.now c.loop-p.p-index c.p-item.result lt is in (
      elim c.if-depth-inside.branch [ then-depth-inside w ↦ omega arith | else-depth-inside w ↦ omega arith ],
      sound_more _ _ _ lt is c.loop-p.invariant.1 c.as_str-key.ensures.sound c.depth-inside.ensures.sound,
    )
