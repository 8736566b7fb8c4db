use Rattle.rumble_run.specs.Answer.{output_of}
use Rattle.rumble_run.proofs.PrintedLines.{ends_line}
use Rattle.rumble_run.proofs.laws.parts_are_output.Goals as goal

pub returns : goal.returns
returns c = λ count items some. c.parts_are_whole.ensures count (output_of items) some (ends_line items)
