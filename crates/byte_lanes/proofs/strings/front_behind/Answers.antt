use Rattle.std.proofs.Common.{arith}
use Rattle.byte_lanes.proofs.FrontLemmas.{no_mark, at_mark}
use Rattle.byte_lanes.proofs.strings.front_behind.Goals as goal

pub returns-then-stops-ne0 : goal.returns-then-stops-ne0
returns-then-stops-ne0 c =
    at_mark c.args.b.now c.loop-end.end 16 (omega (arith, c.loop-end-test.true, c.loop-end.invariant.within)) _ c.loop-end.invariant
    _ c.load-lanes.ensures _ _ c.stop_marks-stops.ensures c.wide_marks-wide.ensures _ c.before_mark.ensures c.if-stops-ne0.true

pub loop-end-preserved : goal.loop-end-preserved
loop-end-preserved c =
    no_mark c.args.b.now c.loop-end.end 16 (omega (arith, c.loop-end-test.true, c.loop-end.invariant.within)) _ c.loop-end.invariant
    _ c.load-lanes.ensures _ _ c.stop_marks-stops.ensures c.wide_marks-wide.ensures c.if-stops-ne0.false
