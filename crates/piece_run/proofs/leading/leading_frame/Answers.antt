use Rattle.query_meaning.specs.inside.Views.{environment_of, eval_in}
use Rattle.clause_eval.specs.Frames.{frame_tuple, tuples_of}
use Rattle.piece_run.proofs.LeadingLets.{one_left}
use Rattle.piece_run.proofs.leading.leading_frame.Goals as goal

pub only_frame-requires : goal.only_frame-requires
only_frame-requires g c =
    one_left (eval_in c.args.env.now) c.args.lets.now c.requires.lets (environment_of c.args.env.now) (frame_tuple c.args.first)
    (tuples_of c.in_ok-first.first) c.in_ok-frames.frames.items c.in_ok-first.ensures c.in_ok-frames.ensures
