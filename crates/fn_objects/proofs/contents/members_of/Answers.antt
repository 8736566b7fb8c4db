use Rattle.std.proofs.Common.{◌∙◌, sym}
use Rattle.item_tree.specs.Datum.{listed_values}
use Rattle.fn_objects.proofs.contents.members_of.Goals as goal

pub returns-in-Array : goal.returns-in-Array
returns-in-Array c = rw c.in-Array.is (c.as_slice.ensures.value ∙ sym (listed_values _))
