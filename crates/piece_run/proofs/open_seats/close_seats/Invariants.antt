use Rattle.std.proofs.Common.{◌≡◌}
use Rattle.driver_files.specs.Counts.{ClosesFiles}
use Rattle.piece_run.specs.Leaf.{files_of_seats, faults_of_seats}
use Rattle.piece_run.proofs.open_seats.close_seats.Given as goal

abbrev pub invariant-closing : goal.invariant-closing
invariant-closing g l =
    (g.I.Inputs.world l.inputs ≡ g.I.Inputs.world l.fn.inputs)
    × ClosesFiles (files_of_seats l.yielded) (faults_of_seats g.I.File.InputFile.faults l.yielded) (g.I.Inputs.counts l.fn.inputs) (g.I.Inputs.counts l.inputs)
