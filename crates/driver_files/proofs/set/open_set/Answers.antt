use Rattle.std.proofs.Common.{vec_len}
use Rattle.driver_files.specs.Driver.{failures}
use Rattle.driver_files.proofs.Closing.{no_failures}
use Rattle.driver_files.proofs.Opened.{set_closed}
use Rattle.driver_files.proofs.set.open_set.Goals as goal

pub returns-in-Err-clause-counts : goal.returns-in-Err-clause-counts
returns-in-Err-clause-counts g c =
    let faults = g.I.File.InputFile.faults in
    let files = c.open_files.new.files in
    set_closed (g.I.Inputs.world c.args.inputs.now) c.args.names.now c.in-Err.fault (vec_len files) (failures faults files.items) (g.I.Inputs.counts c.args.inputs.now)
    (g.I.Inputs.counts c.open_files.new.inputs) (g.I.Inputs.counts c.close_set.new.inputs) c.in-Err.ensures.counts (no_failures faults files.items c.in-Err.ensures.calm) c.close_set.ensures.counts
