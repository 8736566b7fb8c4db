use Rattle.driver_files.proofs.Whole.{driver_failed, driver_given, driver_missing, driver_short, driver_unread, gone_of}
use Rattle.driver_files.proofs.open.open_driver.Goals as goal

pub returns-in-Ok-open_rest-clause-counts : goal.returns-in-Ok-open_rest-clause-counts
returns-in-Ok-open_rest-clause-counts g c =
    let rest = rw c.open_set.ensures.world at c.in-Ok-open_rest.ensures.counts in
    driver_given (g.I.Inputs.world c.args.inputs.now) c.args.names.now c.args.workers c.args.size c.in-Ok.first c.in-Ok-open_rest.files (g.I.Inputs.counts c.args.inputs.now)
    (g.I.Inputs.counts c.open_set.new.inputs) (g.I.Inputs.counts c.open_rest.new.inputs) c.in-Ok.ensures.counts rest

pub returns-in-Err-clause-counts : goal.returns-in-Err-clause-counts
returns-in-Err-clause-counts g c =
    let rest = rw c.open_set.ensures.world at c.in-Err.ensures.counts in
    driver_failed (g.I.Inputs.world c.args.inputs.now) c.args.names.now c.args.workers c.args.size c.in-Ok.first c.in-Err.fault (g.I.Inputs.counts c.args.inputs.now)
    (g.I.Inputs.counts c.open_set.new.inputs) (g.I.Inputs.counts c.open_rest.new.inputs) c.in-Ok.ensures.counts rest

pub returns-in-Err-Missing-clause-told : goal.returns-in-Err-Missing-clause-told
returns-in-Err-Missing-clause-told g c =
    gone_of (g.I.Inputs.world c.args.inputs.now) c.args.names.now (g.I.Inputs.counts c.args.inputs.now) (g.I.Inputs.counts c.open_set.new.inputs)
    (rw c.in-Err-Missing.field-0-is at c.in-Err-Missing.ensures.counts)

pub returns-in-Err-Missing-clause-counts : goal.returns-in-Err-Missing-clause-counts
returns-in-Err-Missing-clause-counts g c =
    driver_missing (g.I.Inputs.world c.args.inputs.now) c.args.names.now c.args.workers c.args.size (g.I.Inputs.counts c.args.inputs.now) (g.I.Inputs.counts c.open_set.new.inputs)
    (rw c.in-Err-Missing.field-0-is at c.in-Err-Missing.ensures.counts)

pub returns-in-Err-Failed-clause-counts : goal.returns-in-Err-Failed-clause-counts
returns-in-Err-Failed-clause-counts g c =
    driver_unread (g.I.Inputs.world c.args.inputs.now) c.args.names.now c.args.workers c.args.size (g.I.Inputs.counts c.args.inputs.now) (g.I.Inputs.counts c.open_set.new.inputs)
    c.requires.some_workers (rw c.in-Err-Failed.field-0-is at c.in-Err-Failed.ensures.counts)

pub returns-in-Err-NoMemory-clause-counts : goal.returns-in-Err-NoMemory-clause-counts
returns-in-Err-NoMemory-clause-counts g c =
    driver_short (g.I.Inputs.world c.args.inputs.now) c.args.names.now c.args.workers c.args.size (g.I.Inputs.counts c.args.inputs.now) (g.I.Inputs.counts c.open_set.new.inputs)
    c.requires.some_workers (rw c.in-Err-NoMemory.field-0-is at c.in-Err-NoMemory.ensures.counts)
