use Rattle.std.proofs.Common.{◌≡◌, ◌≤◌, ◌+◌, ◌<◌, ◌^◌, length, IfSome}
use Rattle.line_pieces.specs.inside.Contents.{lines_at, lines_left, left_of, left_length}
use Rattle.line_pieces.proofs.lines.count_at.Given as goal

abbrev pub invariant-counting : goal.invariant-counting
invariant-counting l = record {
  lines : length (lines_at l.fn.at l.fn.part) ≡ l.count + length (lines_left (left_of l.left));
  few : l.count + left_length (left_of l.left) ≤ length l.fn.part + 1;
  fits : IfSome (left_of l.left) (λ p. p.0 + length p.1 < 2 ^ 64);
}

abbrev pub decreases-counting : goal.decreases-counting
decreases-counting l = left_length (left_of l.left)
