use Rattle.std.proofs.Common.{◌≡◌, ◌≤◌, ◌+◌, ◌-◌, length, drop}
use Rattle.part_writer.specs.Parts.{line_start}
use Rattle.part_writer.proofs.split.behind_lines.Given as goal

-- as many lines are still to come as turns
abbrev pub invariant-loop : goal.invariant-loop
invariant-loop l = record {
  within : l.at ≤ length l.text;
  behind : l.from ≤ l.at;
  rest : l.at + line_start (l.lines - l.counter) (drop l.at l.text)
      ≡ l.from + line_start l.lines (drop l.from l.text);
}
