use Rattle.std.proofs.Common.{arith}
use Rattle.line_pieces.proofs.Places.{place_is}
use Rattle.line_pieces.proofs.cut.Cut.place.Goals as goal

pub returns-clause-file : goal.returns-clause-file
returns-clause-file c =
    let inside = (place_is c.args.self.now.size c.args.self.now.lengths c.args.piece c.requires).file in
    grind (arith, inside)
