use Rattle.std.proofs.Common.{◌∙◌, sym}
use Rattle.item_tree.specs.Datum.{pairs_members}
use Rattle.fn_objects.proofs.contents.pairs_of.Goals as goal

pub returns-in-Object : goal.returns-in-Object
returns-in-Object c = rw c.in-Object.is (c.as_slice.ensures.value ∙ sym (pairs_members _))
