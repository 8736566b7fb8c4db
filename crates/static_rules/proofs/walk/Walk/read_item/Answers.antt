use Rattle.std.proofs.Common.{◌∙◌}
use Rattle.static_rules.proofs.Testing.{item-tested}
use Rattle.static_rules.proofs.walk.Walk.read_item.Goals as goal

pub returns : goal.returns
returns c = c.test.ensures ∙ item-tested c.args.self.now c.args.item c.args.place
