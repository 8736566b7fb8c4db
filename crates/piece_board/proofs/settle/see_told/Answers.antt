use Rattle.std.proofs.Common.{arith}
use Rattle.piece_board.proofs.Seeing.{see_told_at}
use Rattle.piece_board.proofs.settle.see_told.Goals as goal

pub returns-clause-seen : goal.returns-clause-seen
returns-clause-seen c =
    see_told_at c.args.seen.now.items c.len.result c.args.piece c.args.clause c.index.result.now c.is_some.result
    (omega (arith, c.args.seen.now.ok.0)) (omega arith) c.index.ensures c.is_some.ensures c.if-is_some.false
