use Rattle.meaning_laws.proofs.Planned.{plans_read}
use Rattle.meaning_laws.proofs.laws.plans_read_beside.Goals as goal

pub returns : goal.returns
returns c = plans_read c.expressions_stand_once.ensures c.drivers_stand_first.ensures
