use Rattle.std.proofs.Common.{ap, ◌∙◌}
use Rattle.expr_eval.specs.Searches.{innermost}
use Rattle.expr_eval.proofs.SearchSteps.{innermost_last, open_new}
use Rattle.expr_eval.proofs.searches.Search.opens.Goals as goal

pub returns-clause-bindings : goal.returns-clause-bindings
returns-clause-bindings c =
    ap innermost c.in_ok-push.ensures.items ∙ innermost_last c.args.self.now.bindings.items (record { bind = c.args.bind; rest = c.args.rest; before = c.in_ok-before.before; items = c.args.items; taken = 0 })
    ∙ open_new c.args.bind c.args.rest c.in_ok-before.before c.args.items _ c.deref.result.now c.args.self.now.frame.items c.in_ok-before.ensures c.deref.ensures.value
