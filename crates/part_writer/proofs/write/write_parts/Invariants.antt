use Rattle.std.proofs.Common.{◌≡◌, ◌+◌, take}
use Rattle.part_writer.specs.Parts.{parts_from}
use Rattle.part_writer.specs.Written.{made_with}
use Rattle.part_writer.proofs.write.write_parts.Given as goal

-- as many parts as turns are made
abbrev pub invariant-loop-number : goal.invariant-loop-number
invariant-loop-number g l = record {
  made : g.P.Outputs.made l.outputs ≡ made_with (g.P.Outputs.made l.initial.outputs)
      (parts_from 0 l.text (take l.number l.ranges));
  faults : g.P.Outputs.faults l.outputs ≡ g.P.Outputs.faults l.initial.outputs;
  balanced : g.P.Outputs.created l.outputs + g.P.Outputs.finished l.initial.outputs
      ≡ g.P.Outputs.created l.initial.outputs + g.P.Outputs.finished l.outputs;
}
