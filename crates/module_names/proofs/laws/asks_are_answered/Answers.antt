use Rattle.query_tree.specs.NamedViews.{NamedQuery}
use Rattle.module_names.proofs.Answering.{answered}
use Rattle.module_names.proofs.laws.asks_are_answered.Goals as goal

pub returns : goal.returns
returns c = answered NamedQuery
