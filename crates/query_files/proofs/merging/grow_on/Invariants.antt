use Rattle.std.proofs.Common.{◌++◌, take}
use Rattle.query_files.specs.Found.{file_texts}
use Rattle.query_files.specs.Merged.{Texts}
use Rattle.query_files.specs.inside.Grown.{Grows}
use Rattle.query_files.proofs.merging.grow_on.Given as goal

abbrev pub invariant-loop-file : goal.invariant-loop-file
invariant-loop-file g l = (texts : Texts) → Grows texts l.fn.so_far → Grows (texts ++ file_texts (take l.file-index l.rest)) l.growing
