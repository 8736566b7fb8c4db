use Rattle.piece_run.proofs.LeafClosed.{closed, held_by_seats}
use Rattle.piece_run.proofs.LeafValues.{lines_of_files}
use Rattle.driver_files.specs.Driver.{told_files}
use Rattle.piece_run.proofs.leaf_run.LeafRun.lines_of.Goals as goal

pub run_lines-seats-requires-clause-files : goal.run_lines-seats-requires-clause-files
run_lines-seats-requires-clause-files g c κs within =
    held_by_seats g.I.File.InputFile.held g.I.File.InputFile.faults c.args.files.cut (told_files (g.I.Inputs.world c.args.inputs.now) c.args.names.now) c.args.files.sets.items c.in-Ok.seats.items
    c.requires.lengths c.requires.sets c.in-Ok.ensures.seats

pub returns-in-Ok-clause-counts : goal.returns-in-Ok-clause-counts
returns-in-Ok-clause-counts g c =
    closed g.I.File.InputFile.held g.I.File.InputFile.faults c.args.files.cut (told_files (g.I.Inputs.world c.args.inputs.now) c.args.names.now) c.args.files.sets.items c.in-Ok.seats.items c.run_lines-seats.result.0.items
    c.run_lines-seats.result.1 _ _ c.requires.lengths c.requires.sets c.in-Ok.ensures.seats c.run_lines-seats.ensures.files c.run_lines-seats.ensures.many c.run_lines-seats.ensures.calm c.run_lines-seats.ensures.cause
    c.close_seats.ensures.counts

pub returns-in-Ok-clause-value : goal.returns-in-Ok-clause-value
returns-in-Ok-clause-value g c =
    lines_of_files g.K.ItemsKept.stands c.args.names.now c.args.place c.run_lines-seats.result.1 c.args.self.now.workers c.args.self.now.size c.args.files c.inputs_are_lines.ensures (g.I.Inputs.world c.args.inputs.now)
    c.run_lines-seats.ensures.value
