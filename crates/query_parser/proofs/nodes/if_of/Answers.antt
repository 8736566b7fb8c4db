use Rattle.query_parser.proofs.NodeLemmas.{if_is}
use Rattle.query_parser.proofs.nodes.if_of.Goals as goal

pub returns : goal.returns
returns c = if_is c.args.place c.in_ok-condition.condition c.args.condition c.in_ok-condition.when_true c.args.when_true c.in_ok-condition.when_false c.args.when_false c.in_ok-condition.ensures.0 c.in_ok-condition.ensures.1 c.in_ok-condition.ensures.2
