use Rattle.std.proofs.Common.{sym}
use Rattle.query_files.proofs.Placing.{library_is, library_none}
use Rattle.query_files.proofs.texts.library_at.Goals as goal

pub returns-then-position-files : goal.returns-then-position-files
returns-then-position-files c = sym (library_is c.args.files.now c.args.position c.index-files-position.result c.if-position-files.true)

pub returns-else-position-files : goal.returns-else-position-files
returns-else-position-files c = sym (library_none c.args.files.now c.args.position c.requires c.if-position-files.false)
