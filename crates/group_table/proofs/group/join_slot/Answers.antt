use Rattle.group_table.proofs.CodeRows.{read_at, slot_joined, slot_emptied}
use Rattle.group_table.proofs.group.join_slot.Goals as goal

pub returns-clause-row : goal.returns-clause-row
returns-clause-row c =
    slot_joined c.args.row.now.items c.args.tuple.now.items c.args.at c.index_mut.result.now c.index_mut-more.result.now c.append.new.self
    (read_at _ _ _ c.requires.row c.index_mut.ensures.value) (read_at _ _ _ c.requires.tuple c.index_mut-more.ensures.value)
    c.in_ok-append.ensures.items

pub returns-clause-tuple : goal.returns-clause-tuple
returns-clause-tuple c =
    slot_emptied c.args.tuple.now.items c.args.at c.append.new.other c.in_ok-append.ensures.other_items
