use Rattle.std.proofs.Common.{◌∙◌, sym, ap, length}
use Rattle.order_runs.proofs.ColumnLists.{entry_count}
use Rattle.order_runs.proofs.run.seen_of.Goals as goal

pub note-requires-clause-count : goal.note-requires-clause-count
note-requires-clause-count c =
    ap length c.as_slice.ensures.value
    ∙ entry_count c.args.columns c.args.entries.now c.loop-entry.entry-index c.entry-item.result c.requires c.loop-entry-test.true c.entry-item.is
    ∙ sym c.loop-entry.invariant.count
