use Rattle.rumble_run.proofs.preparing.prepared.Goals as goal

pub returns-in-Err-clause-searched : goal.returns-in-Err-clause-searched
returns-in-Err-clause-searched g c =
    rw c.stopped.ensures.status c.in-Err.ensures.searched
