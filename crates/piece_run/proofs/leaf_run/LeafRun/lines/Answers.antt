use Rattle.std.proofs.Common.{◌≡◌, ℕ, List, None, Err, IfSome, sym, subst}
use Rattle.item_tree.specs.declared.fault.Fault.{Fault}
use Rattle.query_meaning.specs.Library.{Library}
use Rattle.driver_files.specs.Driver.{IsToldOpening}
use Rattle.driver_files.specs.Seats.{files_of}
use Rattle.driver_files.specs.declared.driver.Opening.{Opening}
use Rattle.piece_run.specs.declared.leaf_fault.LeafFault.TheVariants as leaf
use Rattle.piece_run.proofs.LeafValues.{lines_lost, LinesKept}
use Rattle.piece_run.proofs.leaf_run.LeafRun.lines.Goals as goal

pub returns-in-Ok-Missing-clause-value : goal.returns-in-Ok-Missing-clause-value
returns-in-Ok-Missing-clause-value g c =
    let world = g.I.Inputs.world c.args.inputs.now in
    subst (λ (f : Fault). IfSome world (λ w. (library : Library) → LinesKept g.K.ItemsKept.stands c.args.names.now c.args.place (Err (leaf.Raised f)) w library)) (sym c.at.ensures)
    (lines_lost g.K.ItemsKept.stands c.args.names.now c.args.place world
    (subst (λ (names : List (List ℕ)). IfSome world (λ w. files_of w names ≡ None)) c.as_slice-names.ensures
    (subst (λ (o : Opening _). IfSome world (λ w. IsToldOpening w c.as_slice-names.result.now c.args.self.now.workers c.args.self.now.size o)) c.in-Ok-Missing.field-0-is c.in-Ok-Missing.ensures.told)))
