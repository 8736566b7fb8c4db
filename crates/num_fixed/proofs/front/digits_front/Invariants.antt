use Rattle.std.proofs.Common.{◌≡◌, ◌+◌, drop}
use Rattle.num_fixed.specs.Scan.{digits_len}
use Rattle.num_fixed.specs.inside.Spells.{spelled, IsKeptIn64}
use Rattle.num_fixed.proofs.front.digits_front.Given as goal

abbrev pub invariant-loop-b : goal.invariant-loop-b
invariant-loop-b l = record {
  count : l.len ≡ l.b-index;
  length : digits_len l.bytes ≡ l.b-index + digits_len (drop l.b-index l.bytes);
  number : IsKeptIn64 (spelled l.start l.bytes) (spelled l.n (drop l.b-index l.bytes));
}
