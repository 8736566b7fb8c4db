use Rattle.std.proofs.Common.{◌≡◌}
use Rattle.line_pieces.specs.Cuts.{place_of}
use Rattle.line_pieces.proofs.Places.{place_from}
use Rattle.line_pieces.proofs.cut.Cut.place.Given as goal

abbrev pub invariant-loop-file : goal.invariant-loop-file
invariant-loop-file l =
    place_of l.self.size l.self.lengths l.piece ≡ place_from l.self.size l.self.lengths l.file l.left
