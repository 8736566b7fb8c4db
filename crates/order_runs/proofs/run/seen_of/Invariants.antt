use Rattle.std.proofs.Common.{◌≡◌, take, length}
use Rattle.order_runs.specs.Orders.{key_lists}
use Rattle.order_runs.specs.Runs.{entries_of}
use Rattle.order_runs.specs.Seen.{SeenStandsFor}
use Rattle.order_runs.proofs.run.seen_of.Given as goal

abbrev pub invariant-loop-entry : goal.invariant-loop-entry
invariant-loop-entry l = record {
  stands : SeenStandsFor l.seen (key_lists (entries_of (take l.entry-index l.entries)));
  count : length l.seen.columns ≡ l.columns;
  tuples : l.seen.tuples ≡ l.entry-index;
}
