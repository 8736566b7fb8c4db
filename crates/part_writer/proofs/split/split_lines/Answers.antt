use Rattle.std.proofs.Common.{arith, ◌≡◌, length}
use Rattle.part_writer.proofs.Lines.{first_line}
use Rattle.part_writer.proofs.Ranges.{next_start, more_ranges, ranges_within, ranges_count}
use Rattle.part_writer.proofs.split.split_lines.Goals as goal

pub loop-init : goal.loop-init
loop-init c = record {
  within = omega arith;
  from = first_line _ c.args.text.now;
  ranges = c.in_ok-ranges.ensures.items;
}

pub loop-preserved : goal.loop-preserved
loop-preserved c =
    let next = next_start c.args.text.now c.max-each.result c.loop.counter c.loop.from _
    c.loop.invariant.from c.behind_lines-to.ensures.value in record {
      within = c.behind_lines-to.ensures.within;
      from = next;
      ranges = more_ranges c.args.text.now c.max-each.result c.loop.counter c.loop.from
          c.behind_lines-to.result c.loop.ranges.items _ c.loop.invariant.ranges
          c.loop.invariant.from next c.in_ok-push.ensures.items;
    }

pub returns-clause-within : goal.returns-clause-within
returns-clause-within c =
    ranges_within c.args.text.now c.max-each.result c.loop.counter c.loop.ranges.items
    c.loop.invariant.ranges

pub returns-clause-length : goal.returns-clause-length
returns-clause-length c =
    let made : length c.loop.ranges.items ≡ c.loop.counter
    = ranges_count c.args.text.now c.max-each.result c.loop.counter c.loop.ranges.items
    c.loop.invariant.ranges in
    omega (arith, made, c.loop-test.false, c.loop.auto.counter-end)
