use Rattle.query_parser.proofs.NodeLemmas.{quant_is}
use Rattle.query_parser.proofs.nodes.quant_of.Goals as goal

pub returns : goal.returns
returns c = quant_is c.args.word.now c.quantifier_of-quantifier.result c.args.binds c.in_ok-test.binds c.in_ok-test.test c.args.test c.quantifier_of-quantifier.ensures c.in_ok-test.ensures.1 c.in_ok-test.ensures.0
