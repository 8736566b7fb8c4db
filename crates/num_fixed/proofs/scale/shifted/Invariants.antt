use Rattle.std.proofs.Common.{◌≡◌, ◌<◌, ◌*◌, ◌^◌}
use Rattle.num_fixed.proofs.scale.shifted.Given as goal

abbrev pub invariant-loop-i : goal.invariant-loop-i
invariant-loop-i l = record {
  same : l.m ≡ l.n * 10 ^ l.i;
  small : l.m < 10 ^ 26;
}
