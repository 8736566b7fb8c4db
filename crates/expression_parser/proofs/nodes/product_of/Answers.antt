use Rattle.std.proofs.Common.{◌∙◌, sym}
use Rattle.expression_parser.proofs.NodeLemmas.{product_is}
use Rattle.expression_parser.proofs.nodes.product_of.Goals as goal

pub returns : goal.returns
returns c = product_is c.args.first c.in_ok-first.first c.args.rest c.in_ok-first.rest c.in_ok-first.ensures.0 c.in_ok-first.ensures.1 (sym c.is_empty.ensures ∙ c.if-is_empty.false)
