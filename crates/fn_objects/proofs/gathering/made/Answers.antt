use Rattle.std.proofs.Common.{refl}
use Rattle.item_tree.proofs.PairLists.{no_repeat}
use Rattle.fn_objects.proofs.ChoiceLemmas.{deep_object}
use Rattle.fn_objects.proofs.gathering.made.Goals as goal

pub unreachable-requires : goal.unreachable-requires
unreachable-requires c = no_repeat _ _ c.requires (rw c.in-Err-KeyTwice.field-0-is at c.in-Err-KeyTwice.ensures)

pub returns-in-Err-TooDeep-clause-fault : goal.returns-in-Err-TooDeep-clause-fault
returns-in-Err-TooDeep-clause-fault c = (refl, deep_object _ (rw c.in-Err-TooDeep.field-0-is at c.in-Err-TooDeep.ensures).1)
