use Rattle.order_runs.proofs.RunLists.{count_pushed, width_pushed}
use Rattle.table_tests.proofs.order_lists.entries.Goals as goal

pub loop-word-preserved : goal.loop-word-preserved
loop-word-preserved c = record {
  counts = count_pushed 2 c.loop-word.entries.items c.push.new.self.items c.in_ok-entry.field-0 c.in_ok-push.ensures.items c.loop-word.invariant.counts c.in_ok-entry.ensures.keys;
  widths = width_pushed 1 c.loop-word.entries.items c.push.new.self.items c.in_ok-entry.field-0 c.in_ok-push.ensures.items c.loop-word.invariant.widths c.in_ok-entry.ensures.width;
}
