use Rattle.std.proofs.Common.{sym}
use Rattle.line_pieces.proofs.Splits.{lines_at-Some, lines_at-None}
use Rattle.line_pieces.proofs.lines.split_line.Goals as goal

pub returns-in-Some-clause-line : goal.returns-in-Some-clause-line
returns-in-Some-clause-line c = lines_at-Some c.args.at c.args.part.now c.in-Some.end (sym c.in-Some.ensures)

pub returns-in-None-clause-line : goal.returns-in-None-clause-line
returns-in-None-clause-line c = lines_at-None c.args.at c.args.part.now (sym c.in-None.ensures)
