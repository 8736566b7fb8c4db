use Rattle.std.proofs.Common.{sym, subst}
use Rattle.std.specs.List.{IsDistinct}
use Rattle.outside.specs.World.{NamesDiffer}
use Rattle.outside.specs.InMemory.{world_of}
use Rattle.rumble_main.proofs.kept.one_file.Goals as goal

pub steady-requires : goal.steady-requires
unfolding IsDistinct
steady-requires c = subst (λ fs. NamesDiffer (world_of fs)) (sym c.in_ok-files.ensures.items) (tt, tt)
