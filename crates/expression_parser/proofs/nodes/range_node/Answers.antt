use Rattle.expression_parser.proofs.NodeLemmas.{range_is}
use Rattle.expression_parser.proofs.nodes.range_node.Goals as goal

pub returns : goal.returns
returns c = range_is c.args.left c.in_ok-left.left c.args.place c.args.right c.in_ok-left.right c.in_ok-left.ensures.0 c.in_ok-left.ensures.1
