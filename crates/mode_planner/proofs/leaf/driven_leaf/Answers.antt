use Rattle.std.proofs.Common.{◌≡◌, IfOk, sym, subst}
use Rattle.mode_planner.specs.inside.Views.{leaf_of}
use Rattle.mode_planner.proofs.NotTold.{planned_whole}
use Rattle.mode_planner.proofs.leaf.driven_leaf.Goals as goal

pub returns-in_default : goal.returns-in_default
returns-in_default c = subst (λ plan. IfOk c.whole.result (λ l. leaf_of l ≡ plan)) (sym (planned_whole c.args.tree.now c.in_default.not-Call c.in_default.not-Flwor)) c.whole.ensures
