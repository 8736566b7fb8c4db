use Rattle.std.proofs.Common.{◌≡◌, ◌+◌, ◌<◌, ◌^◌, length, IfSome}
use Rattle.line_pieces.specs.inside.Contents.{lines_left, left_of, left_length}
use Rattle.line_pieces.proofs.lines.next_lent.Given as goal

abbrev pub invariant-skipping : goal.invariant-skipping
invariant-skipping l = record {
  lines : lines_left (left_of l.fn.left) ≡ lines_left (left_of l.left);
  fits : IfSome (left_of l.left) (λ p. p.0 + length p.1 < 2 ^ 64);
}

abbrev pub decreases-skipping : goal.decreases-skipping
decreases-skipping l = left_length (left_of l.left)
