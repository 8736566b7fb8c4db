use Rattle.std.proofs.Common.{sym, subst, ◌<◌, get_or}
use Rattle.group_table.proofs.CodeRows.{below_at}
use Rattle.group_table.proofs.group.join.Goals as goal

pub join_slot-requires-clause-row : goal.join_slot-requires-clause-row
join_slot-requires-clause-row c =
    subst (λ n. get_or c.args.joined.now c.loop-slot.slot-index 0 < n) (sym c.loop-slot.invariant.row)
    (below_at _ c.args.joined.now c.loop-slot.slot-index c.requires.row c.loop-slot-test.true)

pub join_slot-requires-clause-tuple : goal.join_slot-requires-clause-tuple
join_slot-requires-clause-tuple c =
    subst (λ n. get_or c.args.joined.now c.loop-slot.slot-index 0 < n) (sym c.loop-slot.invariant.tuple)
    (below_at _ c.args.joined.now c.loop-slot.slot-index c.requires.tuple c.loop-slot-test.true)
