use Rattle.query_tree.proofs.SpineLaws.{bounds_spines}
use Rattle.query_tree.proofs.laws.nesting_bounds_spines.Goals as goal

pub returns : goal.returns
returns c = bounds_spines
