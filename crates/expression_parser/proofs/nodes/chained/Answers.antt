use Rattle.std.proofs.Common.{◌∙◌, sym}
use Rattle.expression_parser.specs.Views.{form_of_chain}
use Rattle.expression_parser.proofs.NodeLemmas.{chain_is}
use Rattle.expression_parser.proofs.nodes.chained.Goals as goal

pub returns : goal.returns
returns c = chain_is (form_of_chain c.args.chain) c.args.first c.in_ok-first.first c.args.rest c.in_ok-first.rest c.chain_kind.result c.in_ok-first.ensures.0 c.in_ok-first.ensures.1 (sym c.is_empty.ensures ∙ c.if-is_empty.false) c.chain_kind.ensures
