use Rattle.std.proofs.Common.{◌∙◌, arith}
use Rattle.std.proofs.lemmas.Grind.{common_steps}
use Rattle.line_pieces.proofs.Fronts.{line_front_more, line_front_ends}
use Rattle.line_pieces.proofs.read.read_line_end.Goals as goal

pub returns-in-Some-clause-bytes : goal.returns-in-Some-clause-bytes
returns-in-Some-clause-bytes g c =
    let had = c.reading.invariant in
    let read = rw had.same at c.in_ok-now.ensures.bytes in
    let found = rw c.deref.ensures.value at c.in-Some.ensures in
    line_front_ends c.args.from c.args.end c.args.first c.reading.filled c.in_ok-now.now c.in-Some.line_end
    c.args.bytes.now.items c.reading.bytes.items c.read_behind.new.bytes.items _
    c.in_ok-now.ensures.longer (grind (arith, common_steps)) c.in_ok-now.ensures.kept
    found had.bytes read

pub reading-preserved : goal.reading-preserved
reading-preserved g c =
    let had = c.reading.invariant in
    let read = rw had.same at c.in_ok-now.ensures.bytes in
    let found = rw c.deref.ensures.value at c.in-None.ensures in
    record {
      same = c.in_ok-now.ensures.same ∙ had.same;
      steady = c.in_ok-now.ensures.cause ∙ had.steady;
      longer = grind (arith, common_steps);
      within = grind (arith, common_steps);
      inside = c.in_ok-now.ensures.inside;
      bytes = line_front_more c.args.from c.args.end c.args.first c.reading.filled c.in_ok-now.now
          c.args.bytes.now.items c.reading.bytes.items c.read_behind.new.bytes.items _
          c.in_ok-now.ensures.longer c.in_ok-now.ensures.kept found had.bytes read;
    }
