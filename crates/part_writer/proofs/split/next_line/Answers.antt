use Rattle.std.proofs.Common.{sym, ◌∙◌}
use Rattle.part_writer.proofs.Lines.{next_some, next_none}
use Rattle.part_writer.proofs.split.next_line.Goals as goal

pub returns-in-Some-clause-value : goal.returns-in-Some-clause-value
returns-in-Some-clause-value c =
    next_some c.args.text.now c.args.at c.in-Some.before c.requires
    (sym c.first_newline.ensures ∙ c.in-Some.is)

pub returns-in-None-clause-value : goal.returns-in-None-clause-value
returns-in-None-clause-value c =
    next_none c.args.text.now c.args.at c.requires (sym c.first_newline.ensures ∙ c.in-None.is)
