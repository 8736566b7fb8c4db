use Rattle.query_files.proofs.Growth.{file_grown}
use Rattle.query_files.proofs.merging.grow_at.Goals as goal

pub returns : goal.returns
returns g c =
    file_grown c.args.files.now c.args.position c.args.start c.index-files-position.result c.grow_from.result c.requires c.index-files-position.is
    c.grow_from.ensures.module c.grow_from.ensures.start c.grow_from.ensures.end
