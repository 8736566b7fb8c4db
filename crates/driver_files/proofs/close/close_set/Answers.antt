use Rattle.std.proofs.Common.{refl, ◌∙◌, vec_len}
use Rattle.std.specs.Vec.Iter.{into_iter_items}
use Rattle.driver_files.specs.Driver.{failures}
use Rattle.driver_files.proofs.Closing.{files_begin, file_next}
use Rattle.driver_files.proofs.close.close_set.Goals as goal

pub loop-file-init : goal.loop-file-init
loop-file-init g c = record {
  world = refl;
  closing = files_begin g.I.File.InputFile.faults c.args.files (into_iter_items c.into_iter-file-iterator.result)
      (g.I.Inputs.counts c.args.inputs.now) c.into_iter-file-iterator.ensures.into_iter_gives.0;
}

pub loop-file-preserved : goal.loop-file-preserved
loop-file-preserved g c =
    let faults = g.I.File.InputFile.faults in
    let before = c.loop-file.invariant in
    record {
      world = c.close_file.ensures.world ∙ before.world;
      closing = file_next faults (vec_len c.args.files) (failures faults c.args.files.items) c.in-Some.file (into_iter_items c.loop-file.file-iterator)
          (into_iter_items c.next.new.self) (g.I.Inputs.counts c.args.inputs.now) (g.I.Inputs.counts c.loop-file.inputs) (g.I.Inputs.counts c.close_file.new.self)
          c.in-Some.ensures.steps.0 before.closing c.close_file.ensures.counts;
    }
