use Rattle.std.proofs.Common.{◌<◌, List, subst, arith}
use Rattle.item_tree.specs.Item.{datums}
use Rattle.item_tree.specs.declared.item.Item.{Item}
use Rattle.query_meaning.specs.Outcome.{each}
use Rattle.query_meaning.specs.declared.fault.EvalFault.{EvalFault}
use Rattle.query_meaning.specs.inside.Gives.{FailsAs}
use Rattle.query_meaning.specs.inside.Views.{values_of}
use Rattle.clause_stages.specs.Drivers.{line_item}
use Rattle.clause_stages.specs.InputLines.{line_read}
use Rattle.piece_run.specs.Ends.{items_came}
use Rattle.piece_run.specs.LoneLines.{ItemsAre}
use Rattle.piece_run.proofs.LoneRuns.{lone_met, lone_whole}
use Rattle.piece_run.proofs.lone_lines.of_lines.Goals as goal

pub returns-in-Ok : goal.returns-in-Ok
returns-in-Ok g c =
    let low : 0 < c.args.limit = omega (arith, c.if-limit-eq0.false) in
    lone_whole g.K.ItemsKept.stands c.args.place c.args.lines c.args.limit c.counted-in-Ok.result c.counted-in-Ok.ensures.into
    (values_of c.in-Ok.items) c.in_ok-kept-in-Ok.kept low c.requires c.counted-in-Ok.ensures.outcome
    (subst (λ (xs : List Item). ItemsAre g.K.ItemsKept.stands c.in_ok-kept-in-Ok.kept (items_came (datums xs))) c.deref.ensures.value c.in_ok-kept-in-Ok.ensures)
    c.in-Ok.ensures

pub returns-in-Err-Raised : goal.returns-in-Err-Raised
returns-in-Err-Raised g c =
    let low : 0 < c.args.limit = omega (arith, c.if-limit-eq0.false) in
    lone_met g.K.ItemsKept.stands c.args.place c.args.lines c.args.limit c.counted-in-Err-Raised.result c.counted-in-Err-Raised.ensures.into
    c.in-Err-Raised.fault low c.counted-in-Err-Raised.ensures.outcome
    (subst (λ (f : EvalFault). FailsAs f (each (line_item (line_read c.args.place)) c.args.lines)) c.in-Err-Raised.field-0-is c.in-Err-Raised.ensures)
