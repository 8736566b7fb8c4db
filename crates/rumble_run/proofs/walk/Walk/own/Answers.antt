use Rattle.std.proofs.Common.{◌≡◌, ◌-◌, suc, Some, refl, sym, ap, ◌∙◌, subst, arith}
use Rattle.std.specs.Prelude.{IfSome}
use Rattle.query_tree.specs.BoundViews.{bound_tree, bound_clauses}
use Rattle.mode_planner.specs.inside.Views.{driver_of}
use Rattle.query_meaning.specs.Meaning.{eval}
use Rattle.piece_run.specs.Leaf.{leaf_program, leaf_environment}
use Rattle.rumble_run.specs.inside.Driving.{seen}
use Rattle.rumble_run.specs.inside.Walked.{setting_of, Drives}
use Rattle.rumble_run.proofs.DriverSteps.{flwor_driven}
use Rattle.rumble_run.proofs.FoldedTexts.{lines_there}
use Rattle.rumble_run.proofs.walk.Walk.own.Goals as goal

pub returns-in-Some-Flwor-clause-drives : goal.returns-in-Some-Flwor-clause-drives
unfolding leaf_program leaf_environment
returns-in-Some-Flwor-clause-drives g c =
    let s = setting_of c.args.self.now in
    let world = g.I.Inputs.world c.args.inputs.now in
    let t = bound_tree c.args.tree.now in
    let d = driver_of c.args.driver.now in
    let deeper : suc (c.args.depth - 1) ≡ c.args.depth = omega (arith, c.requires.room) in
    subst (λ n. IfSome world (λ w. Drives g.K.ItemsKept.stands s w t d (λ full. eval full n t s.env) c.flwor.result (g.I.Inputs.counts c.args.inputs.now) (g.I.Inputs.counts c.flwor.new.inputs))) deeper
    (flwor_driven g.K.ItemsKept.stands s s.own s.env world (c.args.depth - 1) t (bound_clauses c.in-Some-Flwor.clauses.now) (bound_tree c.in-Some-Flwor.result.now) d c.flwor.result (g.I.Inputs.counts c.args.inputs.now) (g.I.Inputs.counts c.flwor.new.inputs)
    refl refl (ap (λ x. Some (seen x)) (sym c.in-Some-Flwor.field-0-is) ∙ c.in-Some-Flwor.ensures) c.flwor.ensures.value c.flwor.ensures.counts)

pub returns-in-Some-Lines-clause-drives : goal.returns-in-Some-Lines-clause-drives
returns-in-Some-Lines-clause-drives g c =
    lines_there g.K.ItemsKept.stands (setting_of c.args.self.now) (g.I.Inputs.world c.args.inputs.now) c.args.depth c.args.tree.now c.in-Some-Lines.names.now (driver_of c.args.driver.now) c.lines.result (g.I.Inputs.counts c.args.inputs.now) (g.I.Inputs.counts c.lines.new.inputs)
    c.requires.room (ap (λ x. Some (seen x)) (sym c.in-Some-Lines.field-0-is) ∙ c.in-Some-Lines.ensures) c.requires.driver c.lines.ensures.value c.lines.ensures.counts
