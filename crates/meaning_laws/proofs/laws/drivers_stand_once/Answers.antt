use Rattle.meaning_laws.proofs.Once.{drivers_once}
use Rattle.meaning_laws.proofs.laws.drivers_stand_once.Goals as goal

pub returns : goal.returns
returns c = drivers_once c.expressions_stand_once.ensures c.drivers_stand_first.ensures
