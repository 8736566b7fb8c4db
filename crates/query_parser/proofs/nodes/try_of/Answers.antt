use Rattle.query_parser.proofs.NodeLemmas.{try_is}
use Rattle.query_parser.proofs.nodes.try_of.Goals as goal

pub returns : goal.returns
returns c = try_is c.args.place c.in_ok-body.body c.args.body c.args.catches c.in_ok-body.catches c.in_ok-body.ensures.0 c.in_ok-body.ensures.1
