use Rattle.tuple_rows.proofs.Cutting.{cuts_whole}
use Rattle.tuple_rows.proofs.laws.cuts_are_whole.Goals as goal

pub returns : goal.returns
returns c = cuts_whole
