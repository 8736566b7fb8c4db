use Rattle.query_files.proofs.Growth.{grown_none, grown_next}
use Rattle.query_files.proofs.merging.grow_on.Goals as goal

pub loop-file-init : goal.loop-file-init
loop-file-init g c = λ texts h. grown_none texts c.args.so_far h

pub loop-file-preserved : goal.loop-file-preserved
loop-file-preserved g c = λ texts h.
    grown_next texts c.args.rest.now c.loop-file.file-index c.file-item.result c.loop-file.growing c.in_ok-next.next c.loop-file-test.true c.file-item.is
    (c.loop-file.invariant texts h) c.in_ok-next.ensures
