use Rattle.std.proofs.lemmas.Result.{err_from_is_err_and}
use Rattle.item_tree.specs.Item.{datums}
use Rattle.query_tree.specs.BoundViews.{bound_tree}
use Rattle.query_meaning.specs.inside.Views.{environment_of, eval_in, program_of}
use Rattle.expr_eval.proofs.FixedSteps.{once_faults, once_given}
use Rattle.expr_eval.proofs.kinds.Kinds.filtered_once.Goals as goal

pub returns-in_err-value : goal.returns-in_err-value
unfolding eval_in
returns-in_err-value g c =
    let p = err_from_is_err_and c.from_residual.result c.from_residual.ensures.1 in
    rw (p.1, p.2) (once_faults (program_of c.args.env.now) c.args.env.now.depth c.args.place (bound_tree c.args.test.now) (environment_of c.args.env.now) c.args.items.now _ c.requires.fixed c.requires.some c.in_err-value.ensures)

pub returns : goal.returns
unfolding eval_in
returns g c =
    once_given (program_of c.args.env.now) c.args.env.now.depth c.args.place (bound_tree c.args.test.now) (environment_of c.args.env.now) (datums c.args.items.now) (datums c.items.result.now) _ c.kept_by.result c.requires.fixed c.in_ok-value.ensures c.items.ensures c.kept_by.ensures
