use Rattle.std.proofs.Common.{subst}
use Rattle.query_tree.specs.BoundViews.{bound_catches}
use Rattle.query_meaning.specs.Choices.{handled}
use Rattle.query_meaning.specs.Meaning.{eval}
use Rattle.piece_run.specs.Kept.{LeafFails, KeptIs}
use Rattle.piece_run.specs.declared.leaf_fault.LeafFault.{LeafFault}
use Rattle.rumble_run.specs.inside.Walked.{Prints, setting_of}
use Rattle.rumble_run.proofs.InPlace.{handled_there, raised_kept}
use Rattle.rumble_run.proofs.walk.Walk.caught.Goals as goal

pub returns-in-Err-Raised-clause-value : goal.returns-in-Err-Raised-clause-value
returns-in-Err-Raised-clause-value g c = λ meant h.
    let walk = c.args.self.now in
    let s = setting_of walk in
    let cs = bound_catches c.args.catches.now in
    let fault = c.in-Err-Raised.fault in
    let same = rw c.in-Err-Raised.is at c.in-Err-Raised.field-0-is in
    raised_kept fault c.text_of.result (eval s.own c.args.depth) cs s.env
    (c.text_of.ensures.value (handled (eval s.own c.args.depth) cs s.env fault)
    (handled_there c.env-env.result walk.query.now walk.library.now walk.frame.now walk.globals.now c.args.depth cs fault c.handle.result
    (record { module_is = c.env-env.ensures.module; library_is = c.env-env.ensures.library; globals_is = c.env-env.ensures.globals; frame_is = c.env-env.ensures.frame; context_is = c.env-env.ensures.context; depth_is = c.env-env.ensures.depth })
    c.handle.ensures))
    meant (subst (λ (e : LeafFault). LeafFails e meant) same (subst (λ t. KeptIs Prints t meant) c.in-Err-Raised.is h))
