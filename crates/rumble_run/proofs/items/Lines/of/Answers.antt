use Rattle.rumble_run.proofs.ItemLists.{all_left}
use Rattle.rumble_run.proofs.items.Lines.of.Goals as goal

pub returns : goal.returns
returns c = all_left c.args.input.now c.without_mark.result.now c.without_mark.ensures.rest
