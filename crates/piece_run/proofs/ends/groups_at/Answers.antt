use Rattle.std.proofs.Common.{◌<◌, ◌≤◌, arith}
use Rattle.query_tree.specs.BoundViews.{bound_group_vars}
use Rattle.query_meaning.specs.inside.Views.{environment_of, eval_in}
use Rattle.clause_eval.specs.Frames.{tuples_of}
use Rattle.piece_run.specs.Ends.{groups, groups_end}
use Rattle.piece_run.specs.Outcomes.{CameIs}
use Rattle.piece_run.proofs.EndCarries.{clean_told, end_leaves, groups_met}
use Rattle.piece_run.proofs.ends.groups_at.Goals as goal

pub returns-then-limit-at-clause-outcome : goal.returns-then-limit-at-clause-outcome
returns-then-limit-at-clause-outcome g c =
    let env = c.args.env.now in let keys = bound_group_vars c.args.keys.now in
    let le : c.args.limit ≤ c.args.at = omega (arith, c.if-limit-at.true) in
    clean_told (CameIs g.I.ItemsKept.stands) c.args.at c.args.limit (groups_end (eval_in env) keys (environment_of env) c.args.at) (end_leaves (eval_in env) (environment_of env) (groups keys) c.args.at) le (tuples_of c.args.tuples)

pub returns-in-Met-clause-outcome : goal.returns-in-Met-clause-outcome
returns-in-Met-clause-outcome g c =
    let env = c.args.env.now in
    let less : c.args.at < c.args.limit = omega (arith, c.if-limit-at.false) in
    groups_met (CameIs g.I.ItemsKept.stands) (eval_in env) (bound_group_vars c.args.keys.now) (environment_of env) c.args.at c.args.limit (tuples_of c.args.tuples) c.in_ok-keyed.field-0 c.in-Met.m c.in-Met.is c.in_ok-keyed.ensures.value less
