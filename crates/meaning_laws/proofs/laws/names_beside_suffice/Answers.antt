use Rattle.meaning_laws.proofs.Beside.{names_beside_suffice}
use Rattle.meaning_laws.proofs.laws.names_beside_suffice.Goals as goal

pub returns : goal.returns
returns c = names_beside_suffice
