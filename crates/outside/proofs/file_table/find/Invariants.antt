use Rattle.std.proofs.Common.{◌≡◌, drop}
use Rattle.std.specs.Str.{chars}
use Rattle.outside.specs.World.{file_of}
use Rattle.outside.proofs.file_table.find.Given as goal

abbrev pub invariant-loop-file : goal.invariant-loop-file
invariant-loop-file l =
    file_of (drop l.file-index l.files) (chars l.name) ≡ file_of l.files (chars l.name)
