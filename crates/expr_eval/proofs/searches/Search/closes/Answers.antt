use Rattle.expr_eval.specs.Searches.{open_of}
use Rattle.expr_eval.proofs.searches.Search.closes.Goals as goal

pub returns-clause-frame : goal.returns-clause-frame
unfolding open_of
returns-clause-frame c = c.write.ensures
