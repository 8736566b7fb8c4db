use Rattle.meaning_laws.proofs.Standing.{expressions_stand}
use Rattle.meaning_laws.proofs.laws.expressions_stand.Goals as goal

pub returns : goal.returns
returns c = expressions_stand
