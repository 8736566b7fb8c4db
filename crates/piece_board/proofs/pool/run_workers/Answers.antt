use Rattle.std.proofs.Common.{All, sym, subst, arith}
use Rattle.piece_board.proofs.Working.{ready_all, rise_refl, worked_good, served, room_back, job_of}
use Rattle.piece_board.proofs.pool.run_workers.Goals as goal

pub returns-in_err-board-clause-rises : goal.returns-in_err-board-clause-rises
returns-in_err-board-clause-rises g c = rise_refl _

pub returns-in_err-slots-clause-rises : goal.returns-in_err-slots-clause-rises
returns-in_err-slots-clause-rises g c = rw c.in_err-slots.ensures.err (rise_refl _)

pub work_on-requires-clause-ready : goal.work_on-requires-clause-ready
work_on-requires-clause-ready g c κs within =
    let e = c.in_ok-slots.ensures in
    ready_all (g.J.Job.fits c.args.job.now) c.in_ok-slots.slots.items e.fresh (subst (All (g.J.Job.fits c.args.job.now)) (sym e.moved) c.requires.fits)

pub from_slots-requires-clause-good : goal.from_slots-requires-clause-good
from_slots-requires-clause-good g c κs within =
    worked_good (g.J.Job.fits c.args.job.now) g.J.Job.trouble (g.J.Job.good c.args.job.now) c.in_ok-slots.slots.items c.work_on.new.slots.items c.work_on.ensures

pub from_slots-requires-clause-room : goal.from_slots-requires-clause-room
from_slots-requires-clause-room g c κs within =
    room_back (g.J.Job.fits c.args.job.now) g.J.Job.trouble (g.J.Job.good c.args.job.now) c.in_ok-slots.slots.items c.work_on.new.slots.items c.args.seats.now.items c.into_slots.new.seats.items _
    c.in_ok-slots.ensures.moved c.in_ok-slots.ensures.emptied (omega (arith, c.args.seats.now.ok, c.in_ok-slots.ensures.room)) c.work_on.ensures

pub returns-in_err-done-clause-fits : goal.returns-in_err-done-clause-fits
returns-in_err-done-clause-fits g c =
    let s = served (g.J.Job.fits c.args.job.now) g.J.Job.trouble (g.J.Job.good c.args.job.now) c.in_ok-slots.slots.items c.work_on.new.slots.items c.args.seats.now.items c.into_slots.new.seats.items c.from_slots.new.seats.items
    c.in_ok-slots.ensures.moved c.in_ok-slots.ensures.emptied c.from_slots.ensures.seats c.work_on.ensures in
    s.all_fit

pub returns-in_err-done-clause-rises : goal.returns-in_err-done-clause-rises
returns-in_err-done-clause-rises g c =
    let s = served (g.J.Job.fits c.args.job.now) g.J.Job.trouble (g.J.Job.good c.args.job.now) c.in_ok-slots.slots.items c.work_on.new.slots.items c.args.seats.now.items c.into_slots.new.seats.items c.from_slots.new.seats.items
    c.in_ok-slots.ensures.moved c.in_ok-slots.ensures.emptied c.from_slots.ensures.seats c.work_on.ensures in
    s.rises

pub returns-in_err-done-clause-cause : goal.returns-in_err-done-clause-cause
returns-in_err-done-clause-cause g c =
    let s = served (g.J.Job.fits c.args.job.now) g.J.Job.trouble (g.J.Job.good c.args.job.now) c.in_ok-slots.slots.items c.work_on.new.slots.items c.args.seats.now.items c.into_slots.new.seats.items c.from_slots.new.seats.items
    c.in_ok-slots.ensures.moved c.in_ok-slots.ensures.emptied c.from_slots.ensures.seats c.work_on.ensures in
    λ j. let same = job_of c.from_residual-in_err-done.result c.in_err-done.field-0.0 c.from_residual-in_err-done.ensures.1 j in s.cause c.in_err-done.field-0.0 (c.in_err-done.ensures.err same) same

pub returns-in_err-settle-clause-fits : goal.returns-in_err-settle-clause-fits
returns-in_err-settle-clause-fits g c =
    let s = served (g.J.Job.fits c.args.job.now) g.J.Job.trouble (g.J.Job.good c.args.job.now) c.in_ok-slots.slots.items c.work_on.new.slots.items c.args.seats.now.items c.into_slots.new.seats.items c.from_slots.new.seats.items
    c.in_ok-slots.ensures.moved c.in_ok-slots.ensures.emptied c.from_slots.ensures.seats c.work_on.ensures in
    s.all_fit

pub returns-in_err-settle-clause-rises : goal.returns-in_err-settle-clause-rises
returns-in_err-settle-clause-rises g c =
    let s = served (g.J.Job.fits c.args.job.now) g.J.Job.trouble (g.J.Job.good c.args.job.now) c.in_ok-slots.slots.items c.work_on.new.slots.items c.args.seats.now.items c.into_slots.new.seats.items c.from_slots.new.seats.items
    c.in_ok-slots.ensures.moved c.in_ok-slots.ensures.emptied c.from_slots.ensures.seats c.work_on.ensures in
    s.rises

pub returns-clause-fits : goal.returns-clause-fits
returns-clause-fits g c =
    let s = served (g.J.Job.fits c.args.job.now) g.J.Job.trouble (g.J.Job.good c.args.job.now) c.in_ok-slots.slots.items c.work_on.new.slots.items c.args.seats.now.items c.into_slots.new.seats.items c.from_slots.new.seats.items
    c.in_ok-slots.ensures.moved c.in_ok-slots.ensures.emptied c.from_slots.ensures.seats c.work_on.ensures in
    s.all_fit

pub returns-clause-rises : goal.returns-clause-rises
returns-clause-rises g c =
    let s = served (g.J.Job.fits c.args.job.now) g.J.Job.trouble (g.J.Job.good c.args.job.now) c.in_ok-slots.slots.items c.work_on.new.slots.items c.args.seats.now.items c.into_slots.new.seats.items c.from_slots.new.seats.items
    c.in_ok-slots.ensures.moved c.in_ok-slots.ensures.emptied c.from_slots.ensures.seats c.work_on.ensures in
    s.rises

pub returns-clause-calm : goal.returns-clause-calm
returns-clause-calm g c =
    let s = served (g.J.Job.fits c.args.job.now) g.J.Job.trouble (g.J.Job.good c.args.job.now) c.in_ok-slots.slots.items c.work_on.new.slots.items c.args.seats.now.items c.into_slots.new.seats.items c.from_slots.new.seats.items
    c.in_ok-slots.ensures.moved c.in_ok-slots.ensures.emptied c.from_slots.ensures.seats c.work_on.ensures in
    s.calm c.in_ok-done.ensures.ok
