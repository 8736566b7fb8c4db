use Rattle.std.proofs.lemmas.Result.{err_from_is_err_and}
use Rattle.rumble_run.proofs.ItemLists.{none_printed, one_printed, all_printed, past_fault}
use Rattle.rumble_run.proofs.items.print_lines.Goals as goal

pub printing-init : goal.printing-init
printing-init c = none_printed c.args.input.now _ _ _ c.new-printed.ensures.items c.new-printed.ensures.out c.of-lines.ensures

pub returns-in_err-item-clause-fault : goal.returns-in_err-item-clause-fault
returns-in_err-item-clause-fault c =
    let p = err_from_is_err_and c.from_residual.result c.from_residual.ensures.1 in
    rw (p.1, p.2) (past_fault c.args.input.now c.printing.invariant.items _ _ c.printing.invariant.so_far c.in_err-item.ensures.fault)

pub printing-preserved : goal.printing-preserved
printing-preserved c =
    let next = rw c.in-Some.is at c.in_ok-item.ensures.item in
    rw (c.in_ok-push.ensures.items, c.in_ok-push.ensures.out) (one_printed c.args.input.now _ _ _ _ _ c.printing.invariant next)

pub returns-clause-items : goal.returns-clause-items
returns-clause-items c = all_printed c.args.input.now _ _ _ c.printing.invariant (rw c.in_default.is at c.in_ok-item.ensures.item)
