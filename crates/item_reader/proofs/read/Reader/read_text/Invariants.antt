use Rattle.std.proofs.Common.{◌≡◌, length}
use Rattle.json_text.specs.inside.Machine.{run}
use Rattle.json_text.specs.inside.Build.{outcome, made}
use Rattle.json_text.specs.inside.Fits.{BuildFits}
use Rattle.item_reader.specs.View.{build_of, mode_of, kinds_of}
use Rattle.item_reader.proofs.read.Reader.read_text.Given as goal

-- What the rest makes of what is built is what the whole line makes of the start.
abbrev pub invariant-tokens : goal.invariant-tokens
invariant-tokens l = record {
  same : outcome (build_of l.self.state.build) (run (mode_of l.self.state.mode) (kinds_of l.self.state.kinds.items) l.rest) ≡ made l.line;
  fits : BuildFits (build_of l.self.state.build);
}

abbrev pub decreases-tokens : goal.decreases-tokens
decreases-tokens l = length l.rest
