use Rattle.std.proofs.Common.{Err, ap}
use Rattle.rumble_run.specs.inside.Seen.{answer_of}
use Rattle.rumble_run.proofs.Parting.{parts_ran, parts_stopped}
use Rattle.rumble_run.proofs.parts.run_parts.Goals as goal

pub returns-in-Ok-clause-parts : goal.returns-in-Ok-clause-parts
returns-in-Ok-clause-parts g c =
    let p = c.in-Ok.ensures in
    parts_ran c.args.words.now (answer_of c.in-Ok.parted.ending) c.in-Ok.parted.count _ _ _ _ _ _ _
    p.value p.count p.shape p.usage p.counts.cause p.counts.rises p.counts.balanced p.opens p.searched p.world
    c.finish_parts.ensures.status c.finish_parts.ensures.parts c.finish_parts.ensures.text

pub returns-in-Err-clause-parts : goal.returns-in-Err-clause-parts
returns-in-Err-clause-parts g c =
    let p = c.in-Err.ensures in
    parts_stopped c.args.words.now c.in-Err.stop _ _ _ _ _ _ c.stopped.ensures.status
    (λ e. p.unread (ap (λ x. Err x) e))
    p.counts.cause p.counts.rises p.counts.balanced p.opens p.searched p.world c.stopped.ensures.text
