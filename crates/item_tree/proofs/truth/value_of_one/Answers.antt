use Rattle.item_tree.proofs.Emptiness.{text_true}
use Rattle.item_tree.proofs.truth.value_of_one.Goals as goal

pub returns-in-Text : goal.returns-in-Text
returns-in-Text c =
    let e = rw c.as_str.ensures.bytes at c.is_empty.ensures in
    rw c.in-Text.is (text_true c.in-Text.t c.is_empty.result e)
