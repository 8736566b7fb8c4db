use Rattle.clause_stages.specs.Drivers.{numbered_lines}
use Rattle.piece_run.specs.LoneLines.{ItemsAre, lone_stage}
use Rattle.piece_run.proofs.ToldBelow.{outcome_below}
use Rattle.piece_run.proofs.lone_lines.LinesJobJob.run.Goals as goal

pub returns-clause-below : goal.returns-clause-below
returns-clause-below g c =
    outcome_below (ItemsAre g.K.ItemsKept.stands) 0 0 (lone_stage c.args.self.now.place) (numbered_lines 0 c.lines.result) c.args.limit c.in_ok-out.out
    (c.in_ok-out.ensures 0)
