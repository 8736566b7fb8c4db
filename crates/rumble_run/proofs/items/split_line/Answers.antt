use Rattle.std.proofs.Common.{sym, ◌==◌}
use Rattle.rumble_run.proofs.Cutting.{slice_split-Some, slice_split-None}
use Rattle.rumble_run.proofs.items.split_line.Goals as goal

pub returns-in-Some-clause-line : goal.returns-in-Some-clause-line
returns-in-Some-clause-line c = slice_split-Some (λ b. b == 10) c.args.input.now c.in-Some.end (sym c.in-Some.ensures)

pub returns-in-None-clause-line : goal.returns-in-None-clause-line
returns-in-None-clause-line c = slice_split-None (λ b. b == 10) c.args.input.now (sym c.in-None.ensures)
