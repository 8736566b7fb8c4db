use Rattle.std.proofs.Common.{◌≡◌, ◌<◌, ◌^◌, drop}
use Rattle.num_fixed.specs.Numeral.{number_of}
use Rattle.num_fixed.proofs.digits.number_behind.Given as goal

abbrev pub invariant-loop-b : goal.invariant-loop-b
invariant-loop-b l = record {
  small : l.n < 10 ^ 26;
  same : number_of l.n (drop l.b-index l.digits) ≡ number_of l.start l.digits;
}
