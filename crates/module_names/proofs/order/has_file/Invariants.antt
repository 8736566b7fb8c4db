use Rattle.std.proofs.Common.{◌≡◌, drop}
use Rattle.module_names.specs.Loading.{has_name}
use Rattle.module_names.specs.inside.Order.{file_names}
use Rattle.module_names.proofs.order.has_file.Given as goal

abbrev pub invariant-loop-file : goal.invariant-loop-file
invariant-loop-file g l = has_name l.name (file_names (drop l.file-index l.files)) ≡ has_name l.name (file_names l.files)
