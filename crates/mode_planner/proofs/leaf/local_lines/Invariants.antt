use Rattle.std.proofs.Common.{◌≡◌, map, take}
use Rattle.mode_planner.specs.Plans.{local_line}
use Rattle.mode_planner.proofs.leaf.local_lines.Given as goal

abbrev pub invariant-loop-line : goal.invariant-loop-line
invariant-loop-line l = l.local.items ≡ map local_line (take l.line-index l.lines)
