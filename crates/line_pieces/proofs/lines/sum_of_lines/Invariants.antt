use Rattle.std.proofs.Common.{◌≡◌, ◌+◌, ◌%◌, ◌^◌, length, sum, sum_by}
use Rattle.line_pieces.specs.Pieces.{bytes_sum}
use Rattle.line_pieces.proofs.lines.sum_of_lines.Given as goal

abbrev pub invariant-adding : goal.invariant-adding
invariant-adding l = record {
  value : bytes_sum l.fn.lines ≡ (l.sum + sum_by (λ x. sum x.bytes) l.left) % 2 ^ 64;
}

abbrev pub decreases-adding : goal.decreases-adding
decreases-adding l = length l.left
