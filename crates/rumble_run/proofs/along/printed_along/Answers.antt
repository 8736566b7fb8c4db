use Rattle.std.proofs.Common.{◌∙◌, Ok, [], replicate, sym, ap}
use Rattle.query_meaning.specs.inside.Views.{library_of, tuple_of}
use Rattle.query_tree.specs.Compiled.{bound_trees}
use Rattle.rumble_run.proofs.AlongPlan.{raised_prints, walk_told}
use Rattle.rumble_run.proofs.Opened.{told_all}
use Rattle.rumble_run.proofs.along.printed_along.Goals as goal

pub returns-in-Err-Raised-clause-prints : goal.returns-in-Err-Raised-clause-prints
returns-in-Err-Raised-clause-prints g c =
    let raised = rw c.in-Err-Raised.field-0-is at c.in-Err-Raised.ensures in
    rw c.in-Err-Raised.field-0-is
    (told_all (g.I.Inputs.world c.args.inputs.now)
    (λ w. raised_prints c.args.running c.args.query.now.width (bound_trees c.args.query.now.tree) (library_of c.args.library.now) w c.in-Err-Raised.fault (g.I.Inputs.counts c.args.inputs.now) raised))

pub returns-clause-prints : goal.returns-clause-prints
returns-clause-prints g c =
    walk_told c.args.running c.args.query.now c.args.library.now c.as_slice-2.result.now c.as_slice.result.now c.in-Ok.globals.items _ c.along.result (g.I.Inputs.world c.args.inputs.now)
    (g.I.Inputs.counts c.args.inputs.now) (g.I.Inputs.counts c.along.new.inputs) c.as_slice.ensures.value
    (ap (λ n. Ok (replicate n [])) (sym c.width.ensures) ∙ c.in-Ok-new_frame.ensures ∙ ap (λ vs. Ok (tuple_of vs)) (sym c.as_slice-2.ensures.value))
    (ap (λ t. (bound_trees t).body) c.«module».ensures.tree) c.in-Ok.ensures c.along.ensures.walked
