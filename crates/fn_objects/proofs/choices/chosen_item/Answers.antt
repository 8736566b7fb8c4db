use Rattle.item_tree.specs.Datum.{pairs_members}
use Rattle.fn_objects.proofs.choices.chosen_item.Goals as goal

pub returns-in-Object : goal.returns-in-Object
returns-in-Object c = rw c.in-Object.is (simp pairs_members c.chosen_object.ensures)
