use Rattle.module_names.specs.Alone.{most_read}
use Rattle.std.proofs.Common.{refl}
use Rattle.module_names.proofs.alone.most_read.Goals as goal

pub returns : goal.returns
unfolding most_read
returns c = refl
