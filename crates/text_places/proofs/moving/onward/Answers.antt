use Rattle.text_places.proofs.Moved.{moved}
use Rattle.text_places.proofs.moving.onward.Goals as goal

pub returns-clause-place : goal.returns-clause-place
returns-clause-place c = moved c.args.text.now c.args.known _ c.min-begin.result c.min-end.result c.requires c.if-offset-known.false c.min-end.ensures c.min-begin.ensures c.behind.ensures.line c.behind.ensures.column
