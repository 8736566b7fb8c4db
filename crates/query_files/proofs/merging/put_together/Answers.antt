use Rattle.std.proofs.Common.{arith}
use Rattle.std.proofs.lemmas.List.{take_rest}
use Rattle.query_files.proofs.Growth.{begun}
use Rattle.query_files.proofs.merging.put_together.Goals as goal

pub returns-clause-grown : goal.returns-clause-grown
returns-clause-grown g c =
    begun c.args.files.now _ c.in_ok-growing.growing c.grow_on.result (omega arith) c.in_ok-growing.ensures (take_rest c.args.files.now 1) c.grow_on.ensures
