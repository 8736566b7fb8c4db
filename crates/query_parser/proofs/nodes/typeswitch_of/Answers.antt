use Rattle.query_parser.proofs.NodeLemmas.{typeswitch_is}
use Rattle.query_parser.proofs.nodes.typeswitch_of.Goals as goal

pub returns : goal.returns
returns c = typeswitch_is c.args.place c.in_ok-operand.operand c.args.operand c.args.cases c.in_ok-operand.cases c.args.default.0 c.in_ok-operand.default c.args.default.1 c.in_ok-operand.ensures.0 c.in_ok-operand.ensures.2 c.in_ok-operand.ensures.1
