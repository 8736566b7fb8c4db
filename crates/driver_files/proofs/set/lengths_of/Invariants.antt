use Rattle.std.proofs.Common.{◌≡◌, map, take}
use Rattle.line_pieces.specs.Cuts.{HaveLengths}
use Rattle.driver_files.specs.Driver.{failures}
use Rattle.driver_files.proofs.set.lengths_of.Given as goal

abbrev pub invariant-loop-file : goal.invariant-loop-file
invariant-loop-file g l = record {
  same : map g.S.InputFile.held l.files ≡ map g.S.InputFile.held l.fn.files;
  lengths : HaveLengths l.lengths.items (take l.file-index (map g.S.InputFile.held l.fn.files));
  faults : failures g.S.InputFile.faults l.files ≡ failures g.S.InputFile.faults l.fn.files;
}
