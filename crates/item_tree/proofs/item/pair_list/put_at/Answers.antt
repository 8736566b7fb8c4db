use Rattle.std.proofs.Common.{ap}
use Rattle.item_tree.proofs.Puts.{put_there}
use Rattle.item_tree.proofs.item.pair_list.put_at.Goals as goal

pub returns : goal.returns
returns c = λ k e. put_there k c.args.value c.args.pairs.now.items c.args.at _ c.index_mut.result.now e (ap (λ p. (p.0, c.args.value)) c.index_mut.ensures.value)
