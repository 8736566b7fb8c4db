use Rattle.piece_run.proofs.WholeRuns as law
use Rattle.piece_run.proofs.gathering.gather_whole.Goals as goal

pub gather-requires-clause-known : goal.gather-requires-clause-known
gather-requires-clause-known g c = law.all_known g.W.Kept.stands c.args.pieces c.requires.whole

pub returns : goal.returns
returns g c = law.whole_gathered g.W.Kept.stands c.args.pieces _ c.gather.ensures
