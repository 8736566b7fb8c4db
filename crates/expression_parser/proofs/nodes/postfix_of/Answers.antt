use Rattle.std.proofs.Common.{◌∙◌, sym}
use Rattle.expression_parser.proofs.NodeLemmas.{postfix_is}
use Rattle.expression_parser.proofs.nodes.postfix_of.Goals as goal

pub returns : goal.returns
returns c = postfix_is c.args.primary c.in_ok-primary.primary c.args.steps c.in_ok-primary.steps c.in_ok-primary.ensures.0 c.in_ok-primary.ensures.1 (sym c.is_empty.ensures ∙ c.if-is_empty.false)
