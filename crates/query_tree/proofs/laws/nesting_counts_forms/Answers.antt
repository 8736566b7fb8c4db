use Rattle.query_tree.proofs.NestingLaws.{counts_forms}
use Rattle.query_tree.proofs.laws.nesting_counts_forms.Goals as goal

pub returns : goal.returns
returns c = counts_forms
