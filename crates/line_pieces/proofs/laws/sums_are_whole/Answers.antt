use Rattle.line_pieces.proofs.Sums.{sums_are_whole}
use Rattle.line_pieces.proofs.laws.sums_are_whole.Goals as goal

pub returns : goal.returns
returns c = sums_are_whole
