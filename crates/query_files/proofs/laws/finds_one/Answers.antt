use Rattle.query_files.proofs.OneFound.{finds_one}
use Rattle.query_files.proofs.laws.finds_one.Goals as goal

pub returns : goal.returns
returns c = finds_one
