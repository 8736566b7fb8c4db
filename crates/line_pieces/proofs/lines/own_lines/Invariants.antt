use Rattle.std.proofs.Common.{◌≡◌, ◌++◌, map, length}
use Rattle.line_pieces.specs.Pieces.{line_of}
use Rattle.line_pieces.proofs.lines.own_lines.Given as goal

abbrev pub invariant-copying : goal.invariant-copying
invariant-copying l = record {
  lines : l.fn.lines ≡ map line_of l.own.items ++ l.left;
}

abbrev pub decreases-copying : goal.decreases-copying
decreases-copying l = length l.left
