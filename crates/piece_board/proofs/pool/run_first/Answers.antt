use Rattle.piece_board.proofs.Working.{rise_first}
use Rattle.piece_board.proofs.pool.run_first.Goals as goal

pub returns-clause-rises : goal.returns-clause-rises
returns-clause-rises g c = rise_first g.J.Job.trouble c.args.seats.now.items c.index_mut.result.now c.run_alone.new.seat c.index_mut.ensures.value c.run_alone.ensures.rises
