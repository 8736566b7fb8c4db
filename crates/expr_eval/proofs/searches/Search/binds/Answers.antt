use Rattle.std.proofs.Common.{ap, ◌∙◌}
use Rattle.expr_eval.specs.Searches.{open_of, innermost}
use Rattle.expr_eval.proofs.SearchSteps.{innermost_last}
use Rattle.expr_eval.proofs.searches.Search.binds.Goals as goal

pub returns-clause-bindings : goal.returns-clause-bindings
returns-clause-bindings c = ap innermost c.in_ok-push.ensures.items ∙ innermost_last c.args.self.now.bindings.items c.args.binding

pub returns-clause-frame : goal.returns-clause-frame
unfolding open_of
returns-clause-frame c = c.write.ensures
