use Rattle.part_writer.proofs.Lines.{none_left}
use Rattle.part_writer.proofs.split.behind_lines.Goals as goal

pub returns-clause-value : goal.returns-clause-value
returns-clause-value c =
    none_left c.args.text.now c.loop.at c.args.from c.args.lines c.loop.counter c.loop-test.false
    c.loop.invariant.rest
