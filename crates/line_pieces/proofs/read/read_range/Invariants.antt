use Rattle.std.proofs.Common.{◌≡◌, ◌≤◌, ◌-◌, ◌+◌, vec_len}
use Rattle.line_pieces.proofs.Fronts.{IsFront}
use Rattle.line_pieces.proofs.read.read_range.Given as goal

abbrev pub invariant-reading : goal.invariant-reading
invariant-reading g l = record {
  same : g.F.InputFile.held l.file ≡ g.F.InputFile.held l.fn.file;
  steady : g.F.InputFile.faults l.file ≡ g.F.InputFile.faults l.fn.file;
  within : l.from + l.filled ≤ l.end;
  inside : l.filled ≤ vec_len l.bytes;
  bytes : IsFront l.from l.filled l.bytes.items (g.F.InputFile.held l.fn.file);
}

abbrev pub decreases-reading : goal.decreases-reading
decreases-reading g l = (l.end - l.from) - l.filled
