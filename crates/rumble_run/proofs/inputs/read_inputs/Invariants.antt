use Rattle.std.proofs.Common.{◌≡◌, map, take, drop, Ok}
use Rattle.std.specs.Prelude.{IfSome}
use Rattle.query_meaning.specs.inside.Computed.{inputs_of}
use Rattle.rumble_run.specs.inside.Reads.{Leaves}
use Rattle.rumble_run.specs.inside.Held.{entry}
use Rattle.rumble_run.proofs.Opened.{Opening}
use Rattle.rumble_run.proofs.inputs.read_inputs.Given as goal

abbrev pub invariant-loop-name : goal.invariant-loop-name
invariant-loop-name g l = record {
  world : g.I.Inputs.world l.inputs ≡ g.I.Inputs.world l.fn.inputs;
  held : IfSome (g.I.Inputs.world l.fn.inputs) (λ w.
      map entry l.held.items ≡ inputs_of w (take l.name-index l.names));
  counts : Leaves (Ok l.held) (g.I.Inputs.counts l.fn.inputs) (g.I.Inputs.counts l.inputs);
  opening : IfSome (g.I.Inputs.world l.fn.inputs) (λ w.
      Opening w (drop l.name-index l.names) l.names
      (g.I.Inputs.counts l.fn.inputs) (g.I.Inputs.counts l.inputs));
}
