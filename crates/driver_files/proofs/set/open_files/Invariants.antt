use Rattle.std.proofs.Common.{◌≡◌, ◌≤◌, All, map, take, length, vec_len}
use Rattle.std.specs.Vec.{vec_capacity}
use Rattle.driver_files.specs.Driver.{told_files}
use Rattle.driver_files.proofs.Opened.{SoFar}
use Rattle.driver_files.proofs.set.open_files.Given as goal

abbrev pub invariant-loop-name : goal.invariant-loop-name
invariant-loop-name g l = record {
  world : g.I.Inputs.world l.inputs ≡ g.I.Inputs.world l.fn.inputs;
  held : map g.I.File.InputFile.held l.files.items ≡ told_files (g.I.Inputs.world l.fn.inputs) (take l.name-index l.names);
  calm : All (λ f. g.I.File.InputFile.faults f ≡ 0) l.files.items;
  count : vec_len l.files ≡ l.name-index;
  room : length l.names ≤ vec_capacity l.files;
  so_far : SoFar (g.I.Inputs.world l.fn.inputs) l.names l.name-index (g.I.Inputs.counts l.fn.inputs) (g.I.Inputs.counts l.inputs);
}
