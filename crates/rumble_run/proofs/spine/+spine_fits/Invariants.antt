use Rattle.rumble_run.proofs.SpineFits.{FitsSoFar}
use Rattle.rumble_run.proofs.spine.+spine_fits.Given as goal

abbrev pub decreases-spine_fits : goal.decreases-spine_fits
decreases-spine_fits l = l.room

abbrev pub invariant-loop-operand : goal.invariant-loop-operand
invariant-loop-operand l = FitsSoFar l.tree l.operand-items l.operand-index l.room
