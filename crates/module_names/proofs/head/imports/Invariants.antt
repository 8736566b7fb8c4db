use Rattle.std.proofs.Common.{length, ◌-◌}
use Rattle.module_names.specs.inside.Next.{HasRead}
use Rattle.module_names.proofs.head.imports.Given as goal

abbrev pub invariant-reading : goal.invariant-reading
invariant-reading l = HasRead l.text l.tokens l.found.items l.at

abbrev pub decreases-reading : goal.decreases-reading
decreases-reading l = length l.tokens - l.at
