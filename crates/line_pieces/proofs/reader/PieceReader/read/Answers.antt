use Rattle.std.proofs.Common.{map, arith}
use Rattle.std.proofs.lemmas.Grind.{common_steps}
use Rattle.line_pieces.proofs.Places.{same_number}
use Rattle.line_pieces.proofs.reader.PieceReader.read.Goals as goal

pub read_at-requires-clause-inside : goal.read_at-requires-clause-inside
read_at-requires-clause-inside g c =
    let number = same_number c.args.cut.now.lengths (map g.F.InputFile.held c.args.files.now) c.requires.lengths in
    let inside = c.place-position.ensures.file in
    grind (arith, common_steps, number, inside)
