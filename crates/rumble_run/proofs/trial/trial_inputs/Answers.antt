use Rattle.std.proofs.Common.{sym, subst}
use Rattle.std.specs.List.{IsDistinct}
use Rattle.std.specs.Str.{chars}
use Rattle.outside.specs.World.{NamesDiffer}
use Rattle.outside.specs.InMemory.{world_of}
use Rattle.rumble_run.proofs.trial.trial_inputs.Goals as goal

pub steady-requires : goal.steady-requires
unfolding IsDistinct
steady-requires c = subst (λ files. NamesDiffer (world_of files)) (sym c.in_ok-one_file.ensures) (tt, tt)

pub returns : goal.returns
unfolding chars
returns c = rw (c.in_ok-one_file.ensures, c.in_ok-name.ensures, c.in_ok-bytes.ensures) at c.steady.ensures
