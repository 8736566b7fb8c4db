use Rattle.query_files.proofs.Placing.{last_is}
use Rattle.query_files.proofs.texts.last_text.Goals as goal

pub returns : goal.returns
returns c = last_is c.args.files.now c.text_at.result.now c.requires c.text_at.ensures
