use Rattle.std.proofs.Common.{arith}
use Rattle.std.proofs.lemmas.List.{length-map}
use Rattle.std.proofs.lemmas.List.Folds.{list_all-map}
use Rattle.seq_types.proofs.matching.matches.Goals as goal

pub returns-then-allows : goal.returns-then-allows
returns-then-allows c = grind (arith, length-map, list_all-map)
