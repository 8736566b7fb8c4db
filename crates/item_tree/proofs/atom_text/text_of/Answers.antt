use Rattle.item_tree.proofs.AtomTexts.{chars_null, chars_boolean}
use Rattle.item_tree.proofs.atom_text.text_of.Goals as goal

pub returns-in-Null : goal.returns-in-Null
returns-in-Null c = rw c.in-Null.is (rw chars_null at c.of.ensures)

pub returns-in-Bool : goal.returns-in-Bool
returns-in-Bool c = rw c.in-Bool.is (rw (c.bool_name.ensures, chars_boolean c.in-Bool.b) at c.of-in-Bool.ensures)
