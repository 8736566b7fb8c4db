use Rattle.std.proofs.Common.{◌≡◌, ◌≤◌, ◌-◌, length, take, count_by}
use Rattle.byte_lanes.specs.Bytes.{is_newline}
use Rattle.byte_lanes.proofs.lines.count_newlines.Given as goal

abbrev pub invariant-loop-at : goal.invariant-loop-at
invariant-loop-at l = record {
  within : l.at ≤ length l.b;
  bound : l.count ≤ l.at;
  counted : l.count ≡ count_by is_newline (take l.at l.b);
}

abbrev pub decreases-loop-at : goal.decreases-loop-at
decreases-loop-at l = length l.b - l.at

abbrev pub invariant-loop-at-2 : goal.invariant-loop-at-2
invariant-loop-at-2 l = record {
  within : l.at ≤ length l.b;
  bound : l.count ≤ l.at;
  counted : l.count ≡ count_by is_newline (take l.at l.b);
}

abbrev pub decreases-loop-at-2 : goal.decreases-loop-at-2
decreases-loop-at-2 l = length l.b - l.at
