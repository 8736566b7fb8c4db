use Rattle.query_tree.specs.BoundViews.{bound_tree}
use Rattle.query_meaning.specs.Meaning.{eval}
use Rattle.rumble_run.specs.inside.Walked.{setting_of}
use Rattle.rumble_run.proofs.InPlace.{whole_there}
use Rattle.rumble_run.proofs.walk.Walk.whole.Goals as goal

pub returns-clause-value : goal.returns-clause-value
returns-clause-value g c =
    let walk = c.args.self.now in
    let s = setting_of walk in
    c.text_of.ensures.value (eval s.own c.args.depth (bound_tree c.args.tree.now) s.env)
    (whole_there c.env-env.result walk.query.now walk.library.now walk.frame.now walk.globals.now c.args.depth (bound_tree c.args.tree.now) c.value.result
    (record { module_is = c.env-env.ensures.module; library_is = c.env-env.ensures.library; globals_is = c.env-env.ensures.globals; frame_is = c.env-env.ensures.frame; context_is = c.env-env.ensures.context; depth_is = c.env-env.ensures.depth })
    c.value.ensures)
