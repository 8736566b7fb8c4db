use Rattle.std.proofs.Common.{◌∙◌}
use Rattle.item_tree.proofs.TextOrder.{same_order}
use Rattle.item_tree.proofs.text.StrOrd.cmp.Goals as goal

pub returns : goal.returns
returns c =
    let e = rw (c.as_str.ensures.bytes, c.as_str-2.ensures.bytes) at c.cmp.ensures in
    e ∙ same_order _ _
