use Rattle.std.proofs.Common.{rules}
use Rattle.expr_eval.specs.Searches.{open_of}
use Rattle.expr_eval.proofs.searches.Open.rest.Goals as goal

pub returns : goal.returns
unfolding open_of
returns c = search rules
