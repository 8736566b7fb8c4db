use Rattle.std.proofs.Common.{◌≡◌, ◌≤◌, ◌*◌, ◌^◌, take, sum}
use Rattle.line_pieces.proofs.cut.total.Given as goal

abbrev pub invariant-loop-n : goal.invariant-loop-n
invariant-loop-n l = record {
  value : l.total ≡ sum (take l.n-index l.lengths);
  bound : l.total ≤ l.n-index * 2 ^ 64;
}
