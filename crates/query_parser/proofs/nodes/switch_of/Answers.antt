use Rattle.query_parser.proofs.NodeLemmas.{switch_is}
use Rattle.query_parser.proofs.nodes.switch_of.Goals as goal

pub returns : goal.returns
returns c = switch_is c.args.place c.in_ok-operand.operand c.args.operand c.args.cases c.in_ok-operand.cases c.in_ok-operand.default c.args.default c.in_ok-operand.ensures.0 c.in_ok-operand.ensures.2 c.in_ok-operand.ensures.1
