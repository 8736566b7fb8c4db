use Rattle.std.proofs.Common.{arith}
use Rattle.piece_board.proofs.Working.{worked_back}
use Rattle.piece_board.proofs.worker.work_on.Goals as goal

pub returns : goal.returns
returns g c =
    worked_back (g.J.Job.fits c.args.job.now) g.J.Job.trouble (g.J.Job.good c.args.job.now) c.args.slots.now.items c.as_mut_slice.result.now c.work_all.new.slots c.args.slots.now.len
    c.as_mut_slice.ensures.value (omega (arith, c.args.slots.now.ok.0)) (search arith) c.work_all.ensures
