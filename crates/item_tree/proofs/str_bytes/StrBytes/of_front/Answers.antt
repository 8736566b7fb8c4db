use Rattle.std.proofs.Common.{rules}
use Rattle.item_tree.proofs.ShortTexts.{front_held}
use Rattle.item_tree.proofs.str_bytes.StrBytes.of_front.Goals as goal

pub returns-clause-sound : goal.returns-clause-sound
returns-clause-sound c = (front_held c.args.len c.args.bytes.now c.front_bytes.result c.requires.few c.requires.room (search rules) c.front_bytes.ensures c.requires.ascii).1

pub returns-clause-bytes : goal.returns-clause-bytes
returns-clause-bytes c = (front_held c.args.len c.args.bytes.now c.front_bytes.result c.requires.few c.requires.room (search rules) c.front_bytes.ensures c.requires.ascii).0
