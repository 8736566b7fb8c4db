use Rattle.std.proofs.Common.{◌-◌, Ok}
use Rattle.rumble_run.specs.inside.Walked.{setting_of}
use Rattle.rumble_run.proofs.SpineLoops.{PrintedSoFar}
use Rattle.rumble_run.proofs.walk.Walk.+along.Given as goal

abbrev pub decreases-along : goal.decreases-along
decreases-along g l = l.depth

-- what is printed of the operands so far
abbrev pub invariant-loop-operand : goal.invariant-loop-operand
invariant-loop-operand g l =
    PrintedSoFar (setting_of l.self) (g.I.Inputs.world l.fn.inputs) (g.I.Inputs.world l.inputs)
    (l.depth - 1) l.tree l.operand-items l.operand-index (Ok l.text)
    (g.I.Inputs.counts l.fn.inputs) (g.I.Inputs.counts l.inputs)
