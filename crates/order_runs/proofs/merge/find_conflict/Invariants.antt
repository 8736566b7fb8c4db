use Rattle.std.proofs.Common.{◌≡◌, None, List, take, length}
use Rattle.tuple_rows.specs.Keys.{KeyList}
use Rattle.order_runs.specs.Clashes.{first_clash}
use Rattle.order_runs.specs.Runs.{concat, AllSeen}
use Rattle.order_runs.specs.Seen.{SeenStandsFor}
use Rattle.order_runs.proofs.merge.find_conflict.Given as goal

abbrev pub invariant-loop-i : goal.invariant-loop-i
invariant-loop-i l = record {
  stands : (KS : List (List KeyList)) → AllSeen l.runs KS
      → SeenStandsFor l.before (concat (take l.i KS)) × (first_clash (concat (take l.i KS)) ≡ None);
  count : length l.before.columns ≡ l.columns;
}
