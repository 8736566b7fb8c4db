use Rattle.std.proofs.Common.{Err, IfSome, sym, subst, arith}
use Rattle.std.proofs.lemmas.List.{length-take-le}
use Rattle.clause_eval.specs.Frames.{frame_tuple}
use Rattle.mode_planner.specs.inside.Views.{driver_of}
use Rattle.piece_run.specs.declared.leaf_fault.LeafFault.{LeafFault}
use Rattle.piece_run.specs.declared.leaf_run.LeafFlwor.{LeafFlwor}
use Rattle.piece_run.proofs.LeafValues.{are_lets, lets_within, after_leading, leading_fails, MeansLeaf}
use Rattle.piece_run.proofs.leaf_run.LeafRun.flwor.Goals as goal

pub slice_bounds-leading-end : goal.slice_bounds-leading-end
slice_bounds-leading-end g c =
    let w = lets_within c.drivers_stand_first.ensures c.args.clauses.now (driver_of c.args.driver.now) c.requires.driven in
    sym (length-take-le c.args.driver.now.lets c.args.clauses.now (omega (arith, w)))

pub leading-requires-clause-lets : goal.leading-requires-clause-lets
leading-requires-clause-lets g c κs within = are_lets c.drivers_stand_first.ensures c.args.clauses.now (driver_of c.args.driver.now) c.requires.driven

pub after_lets-requires-clause-few : goal.after_lets-requires-clause-few
after_lets-requires-clause-few g c =
    let w = lets_within c.drivers_stand_first.ensures c.args.clauses.now (driver_of c.args.driver.now) c.requires.driven in
    omega (arith, w, c.if-clauses.false)

pub returns-in-Ok-clause-value : goal.returns-in-Ok-clause-value
returns-in-Ok-clause-value g c =
    let f : LeafFlwor = record { clauses = c.args.clauses; body = c.args.body; driver = c.args.driver.now; depth = c.args.depth } in
    after_leading g.K.ItemsKept.stands c.args.self.now f (frame_tuple c.in-Ok.leading) c.after_lets.result (g.I.Inputs.world c.args.inputs.now) c.in-Ok.ensures c.after_lets.ensures.value

pub returns-in-Err-clause-value : goal.returns-in-Err-clause-value
returns-in-Err-clause-value g c =
    let f : LeafFlwor = record { clauses = c.args.clauses; body = c.args.body; driver = c.args.driver.now; depth = c.args.depth } in
    let world = g.I.Inputs.world c.args.inputs.now in
    subst (λ (x : LeafFault). IfSome world (MeansLeaf g.K.ItemsKept.stands c.args.self.now f (Err x))) (sym c.from.ensures)
    (leading_fails g.K.ItemsKept.stands c.drivers_stand_first.ensures c.flwors_find_calls.ensures c.args.self.now f c.requires.driven c.in-Err.fault world c.in-Err.ensures)
