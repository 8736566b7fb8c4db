use Rattle.std.proofs.lemmas.Result.{err_from_is_err_and}
use Rattle.rumble_run.proofs.ItemLists.{past_read, past_fault, at_last}
use Rattle.rumble_run.proofs.items.read_items.Goals as goal

pub returns-in_err-item-clause-fault : goal.returns-in_err-item-clause-fault
returns-in_err-item-clause-fault c =
    let p = err_from_is_err_and c.from_residual.result c.from_residual.ensures.1 in
    rw (p.1, p.2) (past_fault c.args.input.now _ _ _ c.reading.invariant c.in_err-item.ensures.fault)

pub reading-preserved : goal.reading-preserved
reading-preserved c = rw c.in_ok-push.ensures.items (past_read c.args.input.now _ _ _ _ c.reading.invariant (rw c.in-Some.is at c.in_ok-item.ensures.item))

pub returns-clause-items : goal.returns-clause-items
returns-clause-items c = at_last c.args.input.now _ _ c.reading.invariant (rw c.in_default.is at c.in_ok-item.ensures.item)
