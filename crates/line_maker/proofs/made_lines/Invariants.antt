use Rattle.std.proofs.Common.{◌≡◌, ◌+◌, ◌-◌, ◌++◌}
use Rattle.line_maker.specs.Lines.{lines_from, made_lines}
use Rattle.line_maker.proofs.made_lines.Given as goal

abbrev pub invariant-loop-i : goal.invariant-loop-i
invariant-loop-i l = l.out.items ++ lines_from (l.i + 1) l.state (l.lines - l.i) ≡ made_lines l.number l.lines
