use Rattle.query_parser.proofs.NodeLemmas.{module_is}
use Rattle.query_parser.proofs.modules.module_with.Goals as goal

pub returns : goal.returns
returns c = module_is c.in_ok-variables.variables c.in_ok-variables.functions c.args.body c.in_ok-variables.body c.args.declarations c.in_ok-variables.ensures.0 c.in_ok-variables.ensures.1 c.in_ok-variables.ensures.2
