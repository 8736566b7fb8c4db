use Rattle.std.proofs.Common.{◌≡◌, ◌≤◌, ◌*◌, length, map}
use Rattle.std.specs.List.{range_with_len}
use Rattle.part_writer.specs.Parts.{line_start, part_range}
use Rattle.part_writer.proofs.split.split_lines.Given as goal

-- as many ranges as turns
abbrev pub invariant-loop : goal.invariant-loop
invariant-loop l = record {
  within : l.from ≤ length l.text;
  from : l.from ≡ line_start (l.counter * l.each) l.text;
  ranges : l.ranges.items ≡ map (part_range l.each l.text) (range_with_len 0 l.counter);
}
