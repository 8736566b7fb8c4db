use Rattle.std.proofs.Common.{◌∙◌, arith}
use Rattle.std.proofs.lemmas.Grind.{common_steps}
use Rattle.line_pieces.proofs.Fronts.{front_more}
use Rattle.line_pieces.proofs.read.read_range.Goals as goal

pub reading-preserved : goal.reading-preserved
reading-preserved g c =
    let had = c.reading.invariant in
    let read = rw had.same at c.in_ok-now.ensures.bytes in
    record {
      same = c.in_ok-now.ensures.same ∙ had.same;
      steady = c.in_ok-now.ensures.cause ∙ had.steady;
      within = grind (arith, common_steps);
      inside = c.in_ok-now.ensures.inside;
      bytes = front_more c.args.from c.reading.filled c.in_ok-now.now c.reading.bytes.items
          c.read_behind.new.bytes.items _ c.in_ok-now.ensures.longer c.in_ok-now.ensures.kept had.bytes read;
    }
