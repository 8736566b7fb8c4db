use Rattle.query_tree.specs.BoundViews.{bound_tree}
use Rattle.mode_planner.specs.inside.Views.{driver_of}
use Rattle.rumble_run.specs.inside.Walked.{setting_of}
use Rattle.rumble_run.proofs.DriverSteps.{driver_over}
use Rattle.rumble_run.proofs.FoldedTexts.{own_printed, over_there}
use Rattle.rumble_run.proofs.walk.Walk.driven.Goals as goal

pub call-requires-clause-driver : goal.call-requires-clause-driver
call-requires-clause-driver g c κs within = (driver_over (bound_tree c.args.tree.now) c.in-Some.id (bound_tree c.in-Some.argument.now) (driver_of c.args.driver.now) c.in-Some.ensures c.requires.driver).driver

pub returns-in-Some-clause-walked : goal.returns-in-Some-clause-walked
returns-in-Some-clause-walked g c =
    over_there (setting_of c.args.self.now) (g.I.Inputs.world c.args.inputs.now) c.args.depth c.args.tree.now (bound_tree c.in-Some.argument.now) c.in-Some.id (driver_of c.args.driver.now) c.call.result (g.I.Inputs.counts c.args.inputs.now) (g.I.Inputs.counts c.call.new.inputs)
    c.requires.room c.in-Some.ensures c.requires.driver c.call.ensures.drives

pub returns-in-None-clause-walked : goal.returns-in-None-clause-walked
returns-in-None-clause-walked g c =
    own_printed (setting_of c.args.self.now) (g.I.Inputs.world c.args.inputs.now) c.args.depth (bound_tree c.args.tree.now) (driver_of c.args.driver.now) c.own.result (g.I.Inputs.counts c.args.inputs.now) (g.I.Inputs.counts c.own.new.inputs)
    c.requires.driver c.own.ensures.drives
