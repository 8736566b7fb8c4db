use Rattle.meaning_laws.proofs.Accepted.{no_filler}
use Rattle.meaning_laws.proofs.laws.accepted_meets_no_filler.Goals as goal

pub returns : goal.returns
returns c = no_filler
