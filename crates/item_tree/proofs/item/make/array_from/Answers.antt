use Rattle.std.proofs.Common.{arith}
use Rattle.item_tree.proofs.ArrayLists.{deep_from}
use Rattle.item_tree.proofs.item.make.array_from.Goals as goal

pub returns-then-depth-gt128-clause-made : goal.returns-then-depth-gt128-clause-made
returns-then-depth-gt128-clause-made c =
    let e = c.as_slice.ensures.value in
    let v = rw e at c.array_depth-depth.ensures.value in
    let s = rw e at c.array_depth-depth.ensures.sound in
    deep_from _ s (omega arith)
