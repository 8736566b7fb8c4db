use Rattle.std.proofs.Common.{◌≡◌, ◌≤◌, ◌+◌, All, length, vec_len}
use Rattle.std.specs.Vec.{vec_capacity}
use Rattle.driver_files.specs.Driver.{IsSet, told_files}
use Rattle.driver_files.proofs.More.{SetsSoFar}
use Rattle.driver_files.proofs.sets.open_more.Given as goal

abbrev pub invariant-loop : goal.invariant-loop
invariant-loop g l = record {
  world : g.I.Inputs.world l.inputs ≡ g.I.Inputs.world l.fn.inputs;
  room : vec_len l.fn.sets + l.more ≤ vec_capacity l.sets;
  count : vec_len l.sets ≡ vec_len l.fn.sets + l.counter;
  sets : All (λ s. IsSet g.I.File.InputFile.held g.I.File.InputFile.faults (told_files (g.I.Inputs.world l.fn.inputs) l.names) s.items) l.sets.items;
  so_far : SetsSoFar (length l.names) l.counter (g.I.Inputs.counts l.fn.inputs) (g.I.Inputs.counts l.inputs);
}
