use Rattle.query_files.specs.Found.{text_of}
use Rattle.module_names.specs.Remaining.{done_file}
use Rattle.query_files.proofs.merging.grow.Goals as goal
use Rattle.query_files.proofs.Growth.{add_grown}

pub returns-in-Ok : goal.returns-in-Ok
returns-in-Ok g c =
    add_grown (text_of (done_file c.args.file.now)) c.args.so_far c.in-Ok.next c.add_to.result c.in-Ok.ensures.module c.in-Ok.ensures.start c.in-Ok.ensures.end
    c.add_to.ensures.whole c.add_to.ensures.places
