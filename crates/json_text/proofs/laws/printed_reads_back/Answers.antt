use Rattle.json_text.proofs.PrintedItems.{printed_reads_back}
use Rattle.json_text.proofs.laws.printed_reads_back.Goals as goal

pub returns : goal.returns
returns c = printed_reads_back
