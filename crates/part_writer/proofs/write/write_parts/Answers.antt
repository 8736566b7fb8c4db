use Rattle.std.proofs.Common.{arith}
use Rattle.std.proofs.lemmas.Grind.{common_steps}
use Rattle.part_writer.proofs.Ranges.{more_made, not_made}
use Rattle.part_writer.proofs.write.write_parts.Goals as goal

pub returns-in-Err-clause-made : goal.returns-in-Err-clause-made
returns-in-Err-clause-made g c =
    not_made c.in-Err.fault c.args.text.now c.args.ranges.now c.loop-number.number _ _ _ _
    c.loop-number-test.true c.loop-number.invariant.made c.in-Err.ensures.made

pub loop-number-preserved : goal.loop-number-preserved
loop-number-preserved g c = record {
  made = more_made c.args.text.now c.args.ranges.now c.loop-number.number _ _ _ _
      c.loop-number-test.true c.loop-number.invariant.made c.in_default.ensures.made;
  faults = grind (arith, common_steps);
  balanced = grind (arith, common_steps);
}
