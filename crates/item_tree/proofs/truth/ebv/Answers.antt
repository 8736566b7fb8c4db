use Rattle.std.proofs.Common.{sym}
use Rattle.item_tree.proofs.Emptiness.{many}
use Rattle.item_tree.proofs.truth.ebv.Goals as goal

pub returns-in-len2-up : goal.returns-in-len2-up
returns-in-len2-up c = sym (many _ c.in-len2-up.len_at_least)
