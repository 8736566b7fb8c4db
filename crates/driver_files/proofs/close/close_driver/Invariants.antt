use Rattle.std.proofs.Common.{◌≡◌}
use Rattle.std.specs.Vec.Iter.{into_iter_items}
use Rattle.driver_files.specs.Driver.{failures_in, files_in}
use Rattle.driver_files.proofs.Closing.{Closing}
use Rattle.driver_files.proofs.close.close_driver.Given as goal

abbrev pub invariant-loop-files : goal.invariant-loop-files
invariant-loop-files g l = record {
  world : g.I.Inputs.world l.inputs ≡ g.I.Inputs.world l.fn.inputs;
  closing : Closing (files_in l.fn.sets.items) (failures_in g.I.File.InputFile.faults l.fn.sets.items)
      (files_in (into_iter_items l.files-iterator)) (failures_in g.I.File.InputFile.faults (into_iter_items l.files-iterator))
      (g.I.Inputs.counts l.fn.inputs) (g.I.Inputs.counts l.inputs);
}
