use Rattle.std.proofs.Common.{option_map, sym, ap, ◌∙◌}
use Rattle.query_tree.specs.BoundViews.{bound_tree}
use Rattle.mode_planner.specs.inside.Views.{driver_of}
use Rattle.rumble_run.specs.inside.Walked.{setting_of}
use Rattle.rumble_run.proofs.InPlace.{whole_printed}
use Rattle.rumble_run.proofs.walk.Walk.leaf.Goals as goal

pub returns-in-None-clause-walked : goal.returns-in-None-clause-walked
returns-in-None-clause-walked g c = λ passed.
    whole_printed (setting_of c.args.self.now) (g.I.Inputs.world c.args.inputs.now) c.args.depth (bound_tree c.args.tree.now) c.whole.result (g.I.Inputs.counts c.args.inputs.now)
    passed (sym c.in_ok-driver.ensures ∙ ap (option_map driver_of) c.in-None.is) c.whole.ensures.value
