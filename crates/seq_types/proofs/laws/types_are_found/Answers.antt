use Rattle.seq_types.proofs.TypeLaws.{types_found}
use Rattle.seq_types.proofs.laws.types_are_found.Goals as goal

pub returns : goal.returns
returns c = types_found
