use Rattle.std.proofs.Common.{◌≡◌, ◌+◌, length}
use Rattle.std.specs.Vec.Iter.{into_iter_items, into_iter_len}
use Rattle.item_tree.specs.Item.{datums}
use Rattle.query_meaning.specs.Outcome.{with_front, each_from}
use Rattle.query_meaning.specs.inside.Views.{tuple_of}
use Rattle.clause_eval.specs.Frames.{tuples_of}
use Rattle.clause_eval.specs.OneByOne.{bound_item}
use Rattle.clause_eval.proofs.bindings.bind_items.Given as goal

abbrev pub invariant-loop-x : goal.invariant-loop-x
invariant-loop-x l =
    (with_front (tuples_of l.out) (each_from (bound_item l.by.variable.now l.by.of.now l.by.at.now (tuple_of l.leading)) l.n (datums (into_iter_items l.x-iterator)))
    ≡ each_from (bound_item l.by.variable.now l.by.of.now l.by.at.now (tuple_of l.leading)) l.fn.first (datums (into_iter_items l.initial.x-iterator)))
    × (into_iter_len l.x-iterator ≡ length (into_iter_items l.x-iterator))
    × (l.n + into_iter_len l.x-iterator ≡ l.fn.first + l.count)
