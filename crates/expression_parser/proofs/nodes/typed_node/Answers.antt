use Rattle.expression_parser.specs.Views.{form_of_test}
use Rattle.expression_parser.proofs.NodeLemmas.{typed_is}
use Rattle.expression_parser.proofs.nodes.typed_node.Goals as goal

pub returns : goal.returns
returns c = typed_is (form_of_test c.args.test) c.args.operand c.in_ok-operand.operand c.args.place c.args.to c.in_ok-operand.to c.test_kind.result c.in_ok-operand.ensures.0 c.in_ok-operand.ensures.1 c.test_kind.ensures
