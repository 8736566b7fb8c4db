use Rattle.std.proofs.Common.{◌≡◌, ◌+◌, drop}
use Rattle.item_tree.specs.Item.{datums}
use Rattle.query_meaning.specs.Outcome.{with_front, each_from}
use Rattle.clause_eval.specs.Frames.{frame_tuple, tuples_of}
use Rattle.clause_eval.specs.OneByOne.{bound_item}
use Rattle.clause_eval.proofs.bindings.bound_items.Given as goal

abbrev pub invariant-loop-x : goal.invariant-loop-x
invariant-loop-x l =
    (with_front (tuples_of l.out) (each_from (bound_item l.by.variable.now l.by.of.now l.by.at.now (frame_tuple l.frame)) (l.n + 1) (datums (drop l.x-index l.items)))
    ≡ with_front (tuples_of l.fn.out) (each_from (bound_item l.by.variable.now l.by.of.now l.by.at.now (frame_tuple l.frame)) 1 (datums l.items)))
    × (l.n ≡ l.x-index)
