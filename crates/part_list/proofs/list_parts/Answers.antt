use Rattle.part_list.proofs.Steps.{more}
use Rattle.part_list.proofs.list_parts.Goals as goal

pub loop-number-preserved : goal.loop-number-preserved
loop-number-preserved c =
    more c.args.text.now c.args.ranges.now c.loop-number.number _ _ _ c.loop-number-test.true
    c.loop-number.invariant c.in_ok-push_part_line.ensures
