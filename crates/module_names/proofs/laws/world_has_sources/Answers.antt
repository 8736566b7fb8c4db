use Rattle.std.specs.Fn.{FnReturnsAt}
use Rattle.module_names.proofs.WorldSources.{has_sources}
use Rattle.module_names.proofs.laws.world_has_sources.Goals as goal

pub returns : goal.returns
returns g c = λ given world gives. has_sources (FnReturnsAt g.F.Fn c.args._read.now) given gives world
