use Rattle.part_writer.proofs.Ranges.{parts_are_whole}
use Rattle.part_writer.proofs.laws.parts_are_whole.Goals as goal

pub returns : goal.returns
returns c = parts_are_whole
