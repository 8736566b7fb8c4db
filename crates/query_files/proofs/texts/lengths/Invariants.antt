use Rattle.std.proofs.Common.{◌≡◌, map, take}
use Rattle.query_files.specs.inside.Places.{text_length}
use Rattle.query_files.proofs.texts.lengths.Given as goal

abbrev pub invariant-loop-file : goal.invariant-loop-file
invariant-loop-file l = l.lengths.items ≡ map text_length (take l.file-index l.files)
