use Rattle.std.proofs.Common.{◌≡◌, ℕ, List, Option, None, Err, IfSome, sym, subst}
use Rattle.outside.specs.World.{World}
use Rattle.clause_eval.specs.Frames.{frame_tuple}
use Rattle.driver_files.specs.Driver.{IsToldOpening, told_files}
use Rattle.driver_files.specs.Seats.{files_of}
use Rattle.driver_files.specs.declared.driver.Opening.{Opening}
use Rattle.piece_run.specs.Leaf.{MeansOver, MeansAfter}
use Rattle.piece_run.specs.declared.leaf_fault.LeafFault.{LeafFault}
use Rattle.piece_run.proofs.LeafValues.{after_open, after_missing}
use Rattle.piece_run.proofs.leaf_run.LeafRun.after_lets.Goals as goal

pub returns-in-Ok-Open-clause-value : goal.returns-in-Ok-Open-clause-value
returns-in-Ok-Open-clause-value g c =
    let world = g.I.Inputs.world c.args.inputs.now in
    let r = c.args.self.now in
    let f = c.args.flwor.now in
    after_open c.drivers_stand_first.ensures c.flwors_find_calls.ensures c.inputs_are_lines.ensures g.K.ItemsKept.stands r f c.requires.driven c.requires.depth (frame_tuple c.args.leading.now)
    r.workers r.size c.in-Ok-Open.files c.flwor_of.result world
    (subst (λ (o : Opening _). IfSome world (λ w. IsToldOpening w f.driver.names.now r.workers r.size o)) c.in-Ok-Open.field-0-is
    (subst (λ (names : List (List ℕ)). IfSome world (λ w. IsToldOpening w names r.workers r.size c.in-Ok-Open.field-0)) c.as_slice-names.ensures c.in-Ok-Open.ensures.told))
    (subst (λ (o : Option World). MeansOver g.K.ItemsKept.stands r f (frame_tuple c.args.leading.now) (told_files o f.driver.names.now) c.flwor_of.result) c.open_driver.ensures.world c.flwor_of.ensures.value)

pub returns-in-Ok-Missing-clause-value : goal.returns-in-Ok-Missing-clause-value
returns-in-Ok-Missing-clause-value g c =
    let world = g.I.Inputs.world c.args.inputs.now in
    let r = c.args.self.now in
    let f = c.args.flwor.now in
    subst (λ (fault : LeafFault). IfSome world (MeansAfter g.K.ItemsKept.stands r f (frame_tuple c.args.leading.now) (Err fault))) (sym c.missing.ensures)
    (after_missing c.drivers_stand_first.ensures c.flwors_find_calls.ensures c.inputs_are_lines.ensures g.K.ItemsKept.stands r f c.requires.driven c.requires.depth (frame_tuple c.args.leading.now) world
    (subst (λ (names : List (List ℕ)). IfSome world (λ w. files_of w names ≡ None)) c.as_slice-names.ensures
    (subst (λ (o : Opening _). IfSome world (λ w. IsToldOpening w c.as_slice-names.result.now r.workers r.size o)) c.in-Ok-Missing.field-0-is c.in-Ok-Missing.ensures.told)))
