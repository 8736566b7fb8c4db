use Rattle.std.proofs.Common.{arith}
use Rattle.piece_board.proofs.Seeing.{see_took_at}
use Rattle.piece_board.proofs.settle.see_took.Goals as goal

pub returns-clause-seen : goal.returns-clause-seen
returns-clause-seen c =
    see_took_at c.args.seen.now.items c.len.result c.args.piece c.args.limit c.index.result.now c.is_some.result
    (omega (arith, c.args.seen.now.ok.0)) (omega arith) c.index.ensures c.is_some.ensures c.if-is_some.false
