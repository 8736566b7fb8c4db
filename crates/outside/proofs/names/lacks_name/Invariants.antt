use Rattle.std.proofs.Common.{◌≡◌, drop, not}
use Rattle.std.specs.List.{list_all}
use Rattle.std.specs.Str.{bytes_eq}
use Rattle.outside.specs.InMemory.{world_of}
use Rattle.outside.proofs.names.lacks_name.Given as goal

abbrev pub invariant-loop-file : goal.invariant-loop-file
invariant-loop-file l =
    list_all (λ f. not (bytes_eq l.name f.0)) (world_of (drop l.file-index l.files))
    ≡ list_all (λ f. not (bytes_eq l.name f.0)) (world_of l.files)
