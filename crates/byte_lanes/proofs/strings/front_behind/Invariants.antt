use Rattle.std.proofs.Common.{◌-◌, length}
use Rattle.byte_lanes.specs.inside.Fronts.{IsSeen}
use Rattle.byte_lanes.proofs.strings.front_behind.Given as goal

abbrev pub invariant-loop-end : goal.invariant-loop-end
invariant-loop-end l = IsSeen l.b l.end l.ascii

abbrev pub decreases-loop-end : goal.decreases-loop-end
decreases-loop-end l = length l.b - l.end
