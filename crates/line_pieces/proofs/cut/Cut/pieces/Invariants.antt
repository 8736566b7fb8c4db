use Rattle.std.proofs.Common.{◌≡◌, take, sum_by}
use Rattle.line_pieces.specs.Cuts.{pieces_in}
use Rattle.line_pieces.proofs.cut.Cut.pieces.Given as goal

abbrev pub invariant-loop-n : goal.invariant-loop-n
invariant-loop-n l = l.pieces ≡ sum_by (pieces_in l.self.size) (take l.n-index l.self.lengths)
