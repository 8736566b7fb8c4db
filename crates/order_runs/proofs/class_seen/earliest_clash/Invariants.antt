use Rattle.std.proofs.Common.{◌≡◌, None, drop}
use Rattle.order_runs.specs.inside.Follow.{clash_list}
use Rattle.order_runs.specs.inside.Columns.{earliest}
use Rattle.order_runs.proofs.class_seen.earliest_clash.Given as goal

abbrev pub invariant-loop-i : goal.invariant-loop-i
invariant-loop-i l = earliest l.best l.i (drop l.i (clash_list l.own l.before)) ≡ earliest None 0 (clash_list l.own l.before)
