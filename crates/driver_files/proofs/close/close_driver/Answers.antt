use Rattle.std.proofs.Common.{◌∙◌}
use Rattle.std.specs.Vec.Iter.{into_iter_items}
use Rattle.driver_files.specs.Driver.{failures_in, files_in}
use Rattle.driver_files.proofs.Closing.{set_next}
use Rattle.driver_files.proofs.close.close_driver.Goals as goal

pub loop-files-preserved : goal.loop-files-preserved
loop-files-preserved g c =
    let faults = g.I.File.InputFile.faults in
    let before = c.loop-files.invariant in
    record {
      world = c.close_set.ensures.world ∙ before.world;
      closing = set_next faults (files_in c.args.sets.items) (failures_in faults c.args.sets.items) c.in-Some.files (into_iter_items c.loop-files.files-iterator)
          (into_iter_items c.next.new.self) (g.I.Inputs.counts c.args.inputs.now) (g.I.Inputs.counts c.loop-files.inputs) (g.I.Inputs.counts c.close_set.new.inputs)
          c.in-Some.ensures.steps.0 before.closing c.close_set.ensures.counts;
    }
