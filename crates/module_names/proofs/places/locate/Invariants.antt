use Rattle.std.proofs.Common.{◌≡◌, ◌+◌}
use Rattle.module_names.specs.Places.{start_of}
use Rattle.module_names.proofs.places.locate.Given as goal

abbrev pub invariant-loop-file : goal.invariant-loop-file
invariant-loop-file l = start_of l.lengths l.file + l.rest ≡ l.place
