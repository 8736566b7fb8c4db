use Rattle.std.proofs.Common.{◌≡◌, vec_len, length}
use Rattle.std.specs.Vec.Iter.{into_iter_items}
use Rattle.driver_files.specs.Driver.{failures}
use Rattle.driver_files.proofs.Closing.{Closing}
use Rattle.driver_files.proofs.close.close_set.Given as goal

abbrev pub invariant-loop-file : goal.invariant-loop-file
invariant-loop-file g l = record {
  world : g.I.Inputs.world l.inputs ≡ g.I.Inputs.world l.fn.inputs;
  closing : Closing (vec_len l.fn.files) (failures g.I.File.InputFile.faults l.fn.files.items)
      (length (into_iter_items l.file-iterator)) (failures g.I.File.InputFile.faults (into_iter_items l.file-iterator))
      (g.I.Inputs.counts l.fn.inputs) (g.I.Inputs.counts l.inputs);
}
