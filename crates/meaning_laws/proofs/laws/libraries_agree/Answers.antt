use Rattle.meaning_laws.proofs.Naming.{libraries_agree}
use Rattle.meaning_laws.proofs.laws.libraries_agree.Goals as goal

pub returns : goal.returns
returns c = libraries_agree
