use Rattle.std.proofs.Common.{arith}
use Rattle.std.proofs.lemmas.List.Sorted.{IsPermutation-swap}
use Rattle.piece_board.proofs.settle.put_away.Goals as goal

pub returns-clause-permutation : goal.returns-clause-permutation
returns-clause-permutation g c =
    IsPermutation-swap _ _ c.args.at c.index.result.now.piece c.requires (omega (arith, c.args.done.now.ok.0)) c.swap.ensures.items
